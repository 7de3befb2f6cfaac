use Rattle.sequence.proofs.WorkedSteps.{along_four_levels}
use Rattle.sequence.proofs.laws.along_four_levels.Goals as goal

pub returns : goal.returns
returns c = along_four_levels
