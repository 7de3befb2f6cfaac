use Rattle.sequence.proofs.WorkedTexts as examples
use Rattle.sequence.proofs.laws.two_frames.Goals as goal

pub returns : goal.returns
returns c = examples.two_frames_walked
