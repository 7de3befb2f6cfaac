-- The part that has started, or one byte.
use Rattle.std.proofs.Common.{◌≡◌, true, false, refl, sym, ◌∙◌, inl, inr}
use Rattle.engine.proofs.OutputIsBounded.OutputOfAPortion.{sends_few}
use Rattle.engine.proofs.PartsEnd.FewerDecideNothing.{fewer_decide_nothing}
use Rattle.engine.proofs.PartsEnd.SoManyCompleteAPart.{completes_part, none_due}
use Rattle.engine.proofs.association.Association.input_limit.Goals.{then-is_ended-via-then-is_ended, then-is_ended-via-else-is_ended+then-due-eq0}
use Rattle.engine.proofs.association.Association.input_limit.Goals as goal

pub returns-then-is_ended-clause-few : goal.returns-then-is_ended-clause-few
returns-then-is_ended-clause-few g c inputs story failed store h = sends_few _ _ inputs story failed _ store _ h (inl refl)

pub returns-clause-few : goal.returns-clause-few
returns-clause-few g c inputs story failed store h = sends_few _ _ inputs story failed _ store _ h (inr (sym c.is_ended.ensures.ended ∙ c.if-is_ended.false, c.due-due.ensures))

pub returns-then-is_ended-clause-ends : goal.returns-then-is_ended-clause-ends
returns-then-is_ended-clause-ends g c inputs story failed store h = (
  fewer_decide_nothing _ _ inputs story failed _ store _ h (inl refl),
  λ live. elim c.then-is_ended.branch [
    | then-is_ended-via-then-is_ended w ↦ let wrong : true ≡ false = sym w.if-is_ended.true ∙ c.is_ended.ensures.ended ∙ live in absurd cc
    | then-is_ended-via-else-is_ended+then-due-eq0 w ↦ absurd (none_due _ _ inputs story failed _ store h live c.due-due.result c.due-due.ensures w.if-due-eq0.true)
  ],
)

pub returns-clause-ends : goal.returns-clause-ends
returns-clause-ends g c inputs story failed store h =
    let live = sym c.is_ended.ensures.ended ∙ c.if-is_ended.false in
    (fewer_decide_nothing _ _ inputs story failed _ store _ h (inr (live, c.due-due.ensures)), λ _. completes_part _ _ inputs story failed _ store h live _ c.due-due.ensures)
