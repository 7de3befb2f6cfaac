use Rattle.sequence.proofs.WorkedTexts as examples
use Rattle.sequence.proofs.laws.one_frame.Goals as goal

pub returns : goal.returns
returns c = examples.one_frame_walked
