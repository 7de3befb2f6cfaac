use Rattle.pdu.proofs.CallsReportTheStream.{all_reported, tokens_reported, marks_reported}
use Rattle.pdu.proofs.deframer_laws.calls_report_the_stream.Goals as goal

pub returns : goal.returns
returns c = record { all = λ r due piece reported later h. all_reported h; tokens = tokens_reported; marks = marks_reported }
