use Rattle.std.proofs.Common.{eq-eqb}
use Rattle.std.proofs.lemmas.Bool.{ne_eqb}
use Rattle.dimse.proofs.SetElementsAreFound.{element_shorter, remaining_all, remaining_next, remaining_found, remaining_none}
use Rattle.dimse.proofs.elements.value_in.Goals as goal

pub loop-at-init : goal.loop-at-init
loop-at-init c = λ es h. remaining_all c.args.number es c.args.bytes.now h

pub returns-then-at-number : goal.returns-then-at-number
returns-then-at-number c = λ es h.
    remaining_found c.args.number es c.loop-at.rest.now (record { number = c.in-Some.at; value = c.in-Some.value.now }, c.in-Some.more.now)
    (c.loop-at.invariant es h) c.in-Some.ensures (eq-eqb _ _ c.if-at-number.true)

pub loop-at-smaller : goal.loop-at-smaller
loop-at-smaller c = element_shorter c.loop-at.rest.now (record { number = c.in-Some.at; value = c.in-Some.value.now }, c.in-Some.more.now) c.in-Some.ensures

pub loop-at-preserved : goal.loop-at-preserved
loop-at-preserved c = λ es h.
    remaining_next c.args.number es c.loop-at.rest.now (record { number = c.in-Some.at; value = c.in-Some.value.now }, c.in-Some.more.now)
    (c.loop-at.invariant es h) c.in-Some.ensures (ne_eqb _ _ c.if-at-number.false)

pub returns : goal.returns
returns c = λ es h. remaining_none c.args.number es c.loop-at.rest.now (c.loop-at.invariant es h) (rw c.in_default.is at c.element_at.ensures)
