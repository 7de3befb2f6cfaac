use Rattle.pdu.proofs.FramesAreUnique.{frames_split}
use Rattle.pdu.proofs.laws.stream_has_frames.Goals as goal

pub returns : goal.returns
returns c = frames_split
