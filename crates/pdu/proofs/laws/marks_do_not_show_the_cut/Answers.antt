use Rattle.pdu.proofs.FramesAreUnique.{same_marks}
use Rattle.pdu.proofs.laws.marks_do_not_show_the_cut.Goals as goal

pub returns : goal.returns
returns c = same_marks
