use Rattle.sequence.proofs.WorkedTexts as examples
use Rattle.sequence.proofs.laws.no_fragment.Goals as goal

pub returns : goal.returns
returns c = examples.no_fragment
