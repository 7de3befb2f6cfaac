use Rattle.engine.proofs.WorkedRuns.Associations.{data_above_the_maximum}
use Rattle.engine.proofs.laws.data_above_the_maximum.Goals as goal

pub returns : goal.returns
returns c = data_above_the_maximum
