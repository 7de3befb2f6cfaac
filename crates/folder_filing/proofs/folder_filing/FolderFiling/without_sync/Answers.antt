use Rattle.std.proofs.Common.{length, map, Bool, false, List, [], ◌∷◌, drop, subst, sym}
use Rattle.std.proofs.Math.Logic.{∥∥₁_map}
use Rattle.folder_filing.specs.declared.call.Call.{Call}
use Rattle.folder_filing.specs.declared.call.Call.TheVariants.{Created, Linked, Renamed, Removed, Reported}
use Rattle.folder_filing.specs.Naming.{IsOrderly, LosesNone, Naming, Own}
use Rattle.folder_filing.specs.Settling.{AreReported, IsNamedLast}
use Rattle.folder_filing.proofs.folder_filing.FolderFiling.without_sync.Goals as goal

-- No file is lost where less is asked for.
loses_without : (has_sync : Bool) (own : Own) (calls : List Call) → LosesNone has_sync own calls → LosesNone false own calls
loses_without has_sync own [] loses = loses
loses_without has_sync own (Created draft taken ∷ before) loses = (loses.0, loses_without has_sync own before loses.1)
loses_without has_sync own (Linked draft location ∷ before) loses = (loses.0, (λ synced. absurd cc), loses.2, loses_without has_sync own before loses.3)
loses_without has_sync own (Renamed draft location ∷ before) loses = (loses.0, loses.1, (λ synced. absurd cc), loses.3, loses_without has_sync own before loses.4)
loses_without has_sync own (Removed location taken ∷ before) loses = (loses.0, loses.1, loses.2, loses_without has_sync own before loses.3)
loses_without has_sync own (Reported location ∷ before) loses =
    (loses.0, loses.1, (λ synced. absurd cc), loses.3, loses_without has_sync (record own { reported = drop 1 own.reported }) before loses.4)
loses_without has_sync own (call ∷ before) loses = loses_without has_sync own before loses

orderly_without : (names : Naming) → IsOrderly names → IsOrderly (record names { has_sync = false })
orderly_without names was = record { loses = loses_without names.has_sync names.own names.calls was.loses; rises = was.rises; behind = was.behind; kept = was.kept }

pub invariant_of-self : goal.invariant_of-self
invariant_of-self g c =
    let was = subst (λ z. ∥ IsOrderly z.names ∥₁) (sym c.self-inside.view_is) c.self.invariant.0 in
    let last = subst (λ z. ∥ IsNamedLast z.pending z.names.calls ∥₁) (sym c.self-inside.view_is) c.self.invariant.1 in
    let counted = subst (λ z. AreReported (length (map (λ t. t.bytes) z.kept)) z.pending z.names) (sym c.self-inside.view_is) c.self.invariant.2 in
    (∥∥₁_map was (orderly_without _), last, counted)
