use Rattle.sequence.proofs.WorkedSteps as along
use Rattle.sequence.proofs.laws.along_one_frame.Goals as goal

pub returns : goal.returns
returns c = along.along_one_frame
