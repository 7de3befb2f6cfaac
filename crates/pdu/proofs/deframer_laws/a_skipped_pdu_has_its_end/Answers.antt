use Rattle.pdu.proofs.Public.{skip_at}
use Rattle.pdu.proofs.deframer_laws.a_skipped_pdu_has_its_end.Goals as goal

pub returns : goal.returns
returns c q r due a = skip_at q r due a
