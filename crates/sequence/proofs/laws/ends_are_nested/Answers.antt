use Rattle.sequence.proofs.EndsAreNested.{ends_nested}
use Rattle.sequence.proofs.laws.ends_are_nested.Goals as goal

pub returns : goal.returns
returns c = ends_nested
