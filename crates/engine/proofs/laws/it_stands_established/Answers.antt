use Rattle.engine.proofs.WorkedRuns.WholeAssociations.{it_stands_established}
use Rattle.engine.proofs.laws.it_stands_established.Goals as goal

pub returns : goal.returns
returns c = it_stands_established
