use Rattle.std.proofs.Common.{◌≡◌, ◌≤◌, ◌-◌, length, drop}
use Rattle.sequence.specs.Wanted.{value_of}
use Rattle.sequence.specs.Fields.{stored}
use Rattle.sequence.specs.machine.Keeping.{counts}
use Rattle.sequence.proofs.keep.find_value.Given as goal

abbrev pub invariant-loop-at : goal.invariant-loop-at
invariant-loop-at l = (l.at ≤ length l.list) × (counts (drop l.at l.list) (drop l.at l.lengths) ≤ length l.rest) × (value_of (stored (drop l.at l.list) (drop l.at l.lengths) l.rest) l.tag ≡ value_of (stored l.list l.lengths l.bytes) l.tag)

abbrev pub decreases-loop-at : goal.decreases-loop-at
decreases-loop-at l = length l.list - l.at
