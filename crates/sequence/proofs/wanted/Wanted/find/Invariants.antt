use Rattle.std.proofs.Common.{◌≡◌, ◌≤◌, ◌-◌, length, drop}
use Rattle.sequence.specs.machine.Keeping.{offset_from}
use Rattle.sequence.proofs.wanted.Wanted.find.Given as goal

abbrev pub invariant-loop-at : goal.invariant-loop-at
invariant-loop-at l = (l.at ≤ length l.self.list.items) × (offset_from l.at (drop l.at l.self.list.items) l.number ≡ offset_from 0 l.self.list.items l.number)

abbrev pub decreases-loop-at : goal.decreases-loop-at
decreases-loop-at l = length l.self.list.items - l.at
