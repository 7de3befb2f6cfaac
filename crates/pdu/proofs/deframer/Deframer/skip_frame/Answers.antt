use Rattle.std.proofs.Common.{ℕ, sym, subst}
use Rattle.pdu.specs.declared.position.Position.{Position}
use Rattle.pdu.specs.declared.position.Position.TheVariants as position
use Rattle.pdu.specs.Deframing.{At, Skip}
use Rattle.pdu.proofs.CallFollowsTheMarks.{skip_body, skip_pdv_head, skip_fragment, skip_leftover, skip_again}
use Rattle.pdu.proofs.deframer.Deframer.skip_frame.Goals.{in-Body, in-PdvHead, in-Fragment, in-Leftover, in-Skipped}
use Rattle.pdu.proofs.deframer.Deframer.skip_frame.Goals as goal

pub returns-clause-skip : goal.returns-clause-skip
returns-clause-skip c r due h =
    elim c.match-self.branch [
      | in-Body w ↦ subst (λ (k : ℕ × ℕ). Skip (position.Skipped k.0 k.1) r due) (sym w.kind-is) (skip_body _ _ r due (subst (λ (p : Position). At p r due) w.in-Body.is h))
      | in-PdvHead w ↦ subst (λ (k : ℕ × ℕ). Skip (position.Skipped k.0 k.1) r due) (sym w.kind-is) (skip_pdv_head _ _ r due (subst (λ (p : Position). At p r due) w.in-PdvHead.is h))
      | in-Fragment w ↦ subst (λ (k : ℕ × ℕ). Skip (position.Skipped k.0 k.1) r due) (sym w.kind-is) (skip_fragment _ _ r due (subst (λ (p : Position). At p r due) w.in-Fragment.is h))
      | in-Leftover w ↦ subst (λ (k : ℕ × ℕ). Skip (position.Skipped k.0 k.1) r due) (sym w.kind-is) (skip_leftover _ r due (subst (λ (p : Position). At p r due) w.in-Leftover.is h))
      | in-Skipped w ↦ subst (λ (k : ℕ × ℕ). Skip (position.Skipped k.0 k.1) r due) (sym w.kind-is) (skip_again _ _ r due (subst (λ (p : Position). At p r due) w.in-Skipped.is h))
    ]
