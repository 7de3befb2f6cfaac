use Rattle.sequence.proofs.WorkedTexts.{four_levels_that_end_together}
use Rattle.sequence.proofs.laws.four_levels_that_end_together.Goals as goal

pub returns : goal.returns
returns c = four_levels_that_end_together
