use Rattle.std.proofs.Common.{rules, ◌≡◌, ◌+◌, ◌<◌, ◌∷◌, ◌++◌, ◌∙◌, ap, drop, get_or, length, subst, sym}
use Rattle.std.specs.Prelude.{IsPermutation}
use Rattle.std.proofs.lemmas.List.{drop_more}
use Rattle.index_command.specs.Sharing.{files_of}
use Rattle.index_command.proofs.SharesAreKept.{one_more}
use Rattle.index_command.proofs.contents.read_rows.Goals as goal

pub loop-id-preserved : goal.loop-id-preserved
loop-id-preserved g c =
    let ids = c.args.files.ids.items in
    let at = c.loop-id.id-index in
    let within : at < length ids = search rules in
    let item : get_or ids at c.id-item.result ≡ c.id-item.result = ap (λ given. get_or given at c.id-item.result) (sym c.deref-id-items.ensures.value) ∙ sym c.id-item.is in
    let next : drop at ids ≡ c.id-item.result ∷ drop (at + 1) ids = drop_more ids at c.id-item.result within ∙ ap (λ id. id ∷ drop (at + 1) ids) item in
    one_more ids _ _ _ _ (subst (λ rest. IsPermutation ids (files_of c.loop-id.contents.rows.items c.loop-id.contents.skipped.items ++ rest)) next c.loop-id.invariant) c.in_ok-push.ensures.one
