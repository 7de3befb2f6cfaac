use Rattle.sequence.proofs.WorkedSteps.{along_one_store}
use Rattle.sequence.proofs.laws.along_one_store.Goals as goal

pub returns : goal.returns
returns c = along_one_store
