use Rattle.sequence.proofs.WorkedTexts as examples
use Rattle.sequence.proofs.laws.an_icon.Goals as goal

pub returns : goal.returns
returns c = examples.an_icon
