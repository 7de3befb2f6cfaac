use Rattle.sequence.proofs.WorkedTexts.{two_open_levels}
use Rattle.sequence.proofs.laws.two_open_levels.Goals as goal

pub returns : goal.returns
returns c = two_open_levels
