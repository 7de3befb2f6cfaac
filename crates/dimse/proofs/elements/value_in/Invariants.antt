use Rattle.std.proofs.Common.{◌≡◌, List, length, Some}
use Rattle.dimse.specs.Command.{CommandElement}
use Rattle.dimse.specs.Reading.{elements_of}
use Rattle.dimse.proofs.SetElementsAreFound.{Remaining}
use Rattle.dimse.proofs.elements.value_in.Given as goal

abbrev pub invariant-loop-at : goal.invariant-loop-at
invariant-loop-at l = (es : List CommandElement) → elements_of l.bytes ≡ Some es → Remaining l.number es l.rest

abbrev pub decreases-loop-at : goal.decreases-loop-at
decreases-loop-at l = length l.rest
