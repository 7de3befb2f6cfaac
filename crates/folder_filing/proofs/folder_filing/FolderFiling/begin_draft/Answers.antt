use Rattle.std.proofs.Common.{length, map, refl, arith, subst, sym}
use Rattle.std.proofs.Math.Logic.{∥∥₁_map}
use Rattle.folder_filing.specs.Naming.{IsOrderly}
use Rattle.folder_filing.specs.Settling.{AreReported, IsNamedLast}
use Rattle.folder_filing.proofs.NamesStayOrderly.{continues, keeps_same}
use Rattle.folder_filing.proofs.WaitingFileIsNewest.{same_last}
use Rattle.folder_filing.proofs.folder_filing.FolderFiling.begin_draft.Goals as goal

pub invariant_of-self : goal.invariant_of-self
invariant_of-self g c =
    let asked = c.in_err-file.ensures.refused in
    let was = subst (λ z. ∥ IsOrderly z.names ∥₁) (sym c.self-inside-2.view_is) c.self-2.invariant.0 in
    let last = subst (λ z. ∥ IsNamedLast z.pending z.names.calls ∥₁) (sym c.self-inside-2.view_is) c.self-2.invariant.1 in
    let counted = subst (λ z. AreReported (length (map (λ t. t.bytes) z.kept)) z.pending z.names) (sym c.self-inside-2.view_is) c.self-2.invariant.2 in
    (∥∥₁_map was (continues _ _ refl (omega arith) (keeps_same _) asked.standing (asked.loses _ _)), same_last _ _ _ asked.standing asked.unreported last, counted)

pub invariant_of-self-2 : goal.invariant_of-self-2
invariant_of-self-2 g c =
    let created = c.in_ok-file.ensures.created.1 in
    let was = subst (λ z. ∥ IsOrderly z.names ∥₁) (sym c.self-inside-2.view_is) c.self-2.invariant.0 in
    let last = subst (λ z. ∥ IsNamedLast z.pending z.names.calls ∥₁) (sym c.self-inside-2.view_is) c.self-2.invariant.1 in
    let counted = subst (λ z. AreReported (length (map (λ t. t.bytes) z.kept)) z.pending z.names) (sym c.self-inside-2.view_is) c.self-2.invariant.2 in
    (∥∥₁_map was (continues _ _ refl (omega arith) (keeps_same _) (rw created refl) (λ h. rw created (refl, h))), same_last _ _ _ (rw created refl) (rw created refl) last, counted)
