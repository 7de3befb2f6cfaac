use Rattle.pdu.proofs.ShortStreamsAreMarked.{passes_the_frame}
use Rattle.pdu.proofs.laws.a_value_past_its_frame.Goals as goal

pub returns : goal.returns
returns c = passes_the_frame
