use Rattle.std.proofs.Common.{length}
use Rattle.dimse.proofs.SetElementsAreFound.{Ahead}
use Rattle.dimse.proofs.elements.are_rising.Given as goal

abbrev pub invariant-loop-number : goal.invariant-loop-number
invariant-loop-number l = Ahead l.bytes l.rest l.last

abbrev pub decreases-loop-number : goal.decreases-loop-number
decreases-loop-number l = length l.rest
