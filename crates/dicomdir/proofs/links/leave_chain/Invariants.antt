use Rattle.std.proofs.Common.{◌≡◌, ◌≤◌, length, reverse}
use Rattle.dicomdir.specs.machine.Trail.{remaining_of}
use Rattle.dicomdir.proofs.links.leave_chain.Given as goal

abbrev pub invariant-loop-mark : goal.invariant-loop-mark
invariant-loop-mark g l = record {
  fewer : length l.trail.items ≤ length l.initial.trail.items;
  remaining : remaining_of (reverse l.trail.items) ≡ remaining_of (reverse l.initial.trail.items);
}

abbrev pub decreases-loop-mark : goal.decreases-loop-mark
decreases-loop-mark g l = goal.left-loop-mark g l
