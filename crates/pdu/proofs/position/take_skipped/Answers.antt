use Rattle.std.proofs.Common.{arith}
use Rattle.pdu.proofs.CallFollowsTheMarks.{over_reported, empty_at}
use Rattle.pdu.proofs.position.take_skipped.Goals as goal

pub returns-then-rest-eq0-clause-finds : goal.returns-then-rest-eq0-clause-finds
returns-then-rest-eq0-clause-finds c r due o =
    over_reported _ c.args.kind c.args.remaining.now c.min-count.result c.args.piece.now r due o (omega (arith, o.none_remaining, c.min-count.ensures)) (empty_at _ c.new.ensures)

pub returns-clause-finds : goal.returns-clause-finds
returns-clause-finds c r due o = absurd (omega (arith, o.none_remaining, c.if-rest-eq0.false))
