use Rattle.std.proofs.Common.{length}
use Rattle.pdu.specs.machine.SoFar.{Checks}
use Rattle.pdu.proofs.checking.check_items.Given as goal

abbrev pub invariant-loop-item : goal.invariant-loop-item
invariant-loop-item l = Checks l.so_far l.rest l.text

abbrev pub decreases-loop-item : goal.decreases-loop-item
decreases-loop-item l = length l.rest
