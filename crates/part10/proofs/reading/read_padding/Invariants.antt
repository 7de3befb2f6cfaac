use Rattle.part10.proofs.UidIsInFront.{Padded}
use Rattle.part10.proofs.reading.read_padding.Given as goal

abbrev pub invariant-loop-remaining : goal.invariant-loop-remaining
invariant-loop-remaining g l = Padded l.size l.remaining l.is_padding (g.R.Read.remaining l.fn.input) (g.R.Read.remaining l.input)

abbrev pub decreases-loop-remaining : goal.decreases-loop-remaining
decreases-loop-remaining g l = l.remaining
