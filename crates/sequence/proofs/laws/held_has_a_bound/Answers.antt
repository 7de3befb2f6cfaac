use Rattle.sequence.proofs.Public.{held_has_a_bound}
use Rattle.sequence.proofs.laws.held_has_a_bound.Goals as goal

pub returns : goal.returns
returns c = held_has_a_bound
