use Rattle.std.proofs.Common.{◌≡◌, drop}
use Rattle.sequence.specs.Wanted.{room_of}
use Rattle.sequence.proofs.wanted.Wanted.room.Given as goal

abbrev pub invariant-loop-want : goal.invariant-loop-want
invariant-loop-want l = room_of (drop l.want-index l.want-items) l.number ≡ room_of l.self.list.items l.number
