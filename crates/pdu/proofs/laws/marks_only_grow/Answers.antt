use Rattle.pdu.proofs.FramesAreUnique.{marks_grow}
use Rattle.pdu.proofs.laws.marks_only_grow.Goals as goal

pub returns : goal.returns
returns c = marks_grow
