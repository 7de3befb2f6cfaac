use Rattle.std.proofs.Common.{ℕ, List, Option, Some, ◌∙◌, ◌++◌, map, ap, ap₂, sym}
use Rattle.std.proofs.lemmas.List.{map-append}
use Rattle.std.proofs.lemmas.Result.{IfOk-weaker}
use Rattle.element.specs.Uid.{uid_of}
use Rattle.negotiate.specs.Settings.{Settings, registered}
use Rattle.arguments.proofs.TransfersAreAsAsked.{map_now}
use Rattle.arguments.proofs.settings.with_storage.Goals as goal

pub returns-clause-classes : goal.returns-clause-classes
returns-clause-classes c =
    IfOk-weaker c.accepting_transfers.result _ _
    (λ s h. ap (map Some) (ap (λ (x : Settings). x.additional.classes) h ∙ ap (λ (x : Settings). x.additional.classes) c.with_storage-accepting.ensures)
    ∙ (map-append Some c.as_slice.result.now (registered c.flag.result)
    ∙ ap₂ (λ (xs ys : List (Option (List ℕ))). xs ++ ys)
    (ap (map Some) c.as_slice.ensures.value ∙ (sym c.in_ok-uids.ensures.read ∙ sym (map_now uid_of c.in_ok-classes.classes.now _ c.in_ok-classes.ensures.values)))
    (ap (λ b. map Some (registered b)) c.flag.ensures)))
    c.accepting_transfers.ensures.rest
