use Rattle.std.proofs.Common.{◌∙◌}
use Rattle.dimse.proofs.SetElementsAreFound.{element_shorter, ahead_all, ahead_next, ahead_none, ahead_order}
use Rattle.dimse.proofs.elements.are_rising.Goals as goal

pub loop-number-init : goal.loop-number-init
loop-number-init c = ahead_all c.args.bytes.now

pub loop-number-smaller : goal.loop-number-smaller
loop-number-smaller c = element_shorter c.loop-number.rest.now (record { number = c.in-Some.number; value = c.in-Some.field-0-1.now }, c.in-Some.more.now) c.in-Some.ensures

pub loop-number-preserved : goal.loop-number-preserved
loop-number-preserved c =
    ahead_next c.args.bytes.now c.loop-number.rest.now c.loop-number.last (record { number = c.in-Some.number; value = c.in-Some.field-0-1.now }, c.in-Some.more.now)
    c.loop-number.invariant c.in-Some.ensures c.if-number-last.false

pub returns-then-number-last : goal.returns-then-number-last
returns-then-number-last c =
    ahead_order c.args.bytes.now c.loop-number.rest.now c.loop-number.last (record { number = c.in-Some.number; value = c.in-Some.field-0-1.now }, c.in-Some.more.now)
    c.loop-number.invariant c.in-Some.ensures c.if-number-last.true

pub returns : goal.returns
returns c = c.is_empty.ensures ∙ ahead_none c.args.bytes.now c.loop-number.rest.now c.loop-number.last c.loop-number.invariant (rw c.in_default.is at c.element_at.ensures)
