use Rattle.part10.proofs.GroupIsItsElements.{Grouped}
use Rattle.part10.proofs.reading.read_group.Given as goal

abbrev pub invariant-loop-remaining : goal.invariant-loop-remaining
invariant-loop-remaining g l = Grouped l.size l.remaining l.last l.found (g.R.Read.remaining l.fn.input) (g.R.Read.remaining l.input)

abbrev pub decreases-loop-remaining : goal.decreases-loop-remaining
decreases-loop-remaining g l = l.remaining
