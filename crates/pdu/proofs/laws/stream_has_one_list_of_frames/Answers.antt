use Rattle.pdu.proofs.FramesAreUnique.{one_split}
use Rattle.pdu.proofs.laws.stream_has_one_list_of_frames.Goals as goal

pub returns : goal.returns
returns c = one_split
