use Rattle.engine.proofs.Public.{bounded_output}
use Rattle.engine.proofs.laws.bounded_output.Goals as goal

pub returns : goal.returns
returns c = bounded_output
