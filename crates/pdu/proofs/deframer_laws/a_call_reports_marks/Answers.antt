use Rattle.pdu.proofs.Public.{marks_consumed, mark_consumed, among_body, among_fragment}
use Rattle.pdu.proofs.deframer_laws.a_call_reports_marks.Goals as goal

pub returns : goal.returns
returns c = record { consumed = marks_consumed; one = mark_consumed; bodies = among_body; fragments = among_fragment }
