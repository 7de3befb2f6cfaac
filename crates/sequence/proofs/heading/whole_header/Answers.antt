use Rattle.sequence.specs.machine.Judging.{limits_by}
use Rattle.sequence.specs.machine.Heading.{IsFront}
use Rattle.sequence.proofs.CodeIsMachine.WhereRulesBreak.{need_short, need_least, whole_end}
use Rattle.sequence.proofs.heading.whole_header.Goals as goal

pub is_unbroken-requires-clause-size : goal.is_unbroken-requires-clause-size
is_unbroken-requires-clause-size c =
    let is : IsFront c.args.spot.now.syntax c.args.piece.now c.in_ok-front.front = c.in_ok-front.ensures in
    need_short c.args.spot.now.syntax c.args.piece.now c.in_ok-front.front.size is.size-is

pub is_unbroken-requires-clause-least : goal.is_unbroken-requires-clause-least
is_unbroken-requires-clause-least c =
    let is : IsFront c.args.spot.now.syntax c.args.piece.now c.in_ok-front.front = c.in_ok-front.ensures in
    need_least c.args.spot.now.syntax c.args.piece.now c.in_ok-front.front.size is.size-is

pub returns-then-is_unbroken : goal.returns-then-is_unbroken
returns-then-is_unbroken c =
    let is : IsFront c.args.spot.now.syntax c.args.piece.now c.in_ok-front.front = c.in_ok-front.ensures in
    whole_end (limits_by c.args.wanted.now.list.items c.args.bounds.now) c.args.spot.now c.args.piece.now c.in_ok-front.front is (c.is_unbroken.ensures c.if-is_unbroken.true)
