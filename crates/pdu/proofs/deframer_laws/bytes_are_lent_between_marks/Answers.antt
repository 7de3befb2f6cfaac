use Rattle.pdu.proofs.CallsReportTheStream.{bodies_lent, fragments_lent}
use Rattle.pdu.proofs.deframer_laws.bytes_are_lent_between_marks.Goals as goal

pub returns : goal.returns
returns c = record { bodies = bodies_lent; fragments = fragments_lent }
