use Rattle.std.proofs.Common.{◌∙◌, refl, arith, subst, sym}
use Rattle.std.proofs.Math.Logic.{∥∥₁_elim, ∥∥₁_map, ∥∥₁_prop}
use Rattle.folder_filing.specs.Naming.{IsOrderly}
use Rattle.folder_filing.specs.Settling.{IsNamedLast}
use Rattle.folder_filing.specs.declared.pending.Pending.TheVariants.{Named}
use Rattle.folder_filing.proofs.NamesStayOrderly.{continues, keeps_same}
use Rattle.folder_filing.proofs.WaitingFileIsNewest.{takes_back_or_fails}
use Rattle.folder_filing.proofs.locked_folder.LockedFolder.remove_at.Goals as goal

pub returns-in_err-check_path-clause-orderly : goal.returns-in_err-check_path-clause-orderly
returns-in_err-check_path-clause-orderly g c = λ h.
    let was = subst (λ z. ∥ IsOrderly z ∥₁) (sym c.names.view_is) h in
    let asked = c.in_err-check_path.ensures.refused in
    ∥∥₁_map was (continues _ _ refl (omega arith) (keeps_same _) asked.standing (asked.loses _ _))

pub returns-in_err-path-clause-orderly : goal.returns-in_err-path-clause-orderly
returns-in_err-path-clause-orderly g c = λ h.
    let was = subst (λ z. ∥ IsOrderly z ∥₁) (sym c.names.view_is) h in
    let unchanged = c.in_ok-check_path.ensures.unchanged in
    let refused = c.in_err-path.ensures.refused in
    ∥∥₁_map was (continues _ _ refl (omega arith) (keeps_same _) (rw (refused, unchanged) refl) (λ l. rw (refused, unchanged) l))

pub returns-clause-orderly : goal.returns-clause-orderly
returns-clause-orderly g c = λ h.
    let was = subst (λ z. ∥ IsOrderly z ∥₁) (sym c.names.view_is) h in
    let newest = subst (λ z. ∥ IsNamedLast (Named c.args.location) z.calls ∥₁) (sym c.names.view_is) c.requires.newest in
    let same = c.in_ok-path.ensures.unchanged ∙ c.in_ok-check_path.ensures.unchanged in
    ∥∥₁_elim newest ∥∥₁_prop (λ n.
    ∥∥₁_map was (takes_back_or_fails c.remove.result _ _ c.args.location _ (refl, refl, refl, refl) refl same c.remove.ensures.removed c.remove.ensures.refused n.0 n.1))
