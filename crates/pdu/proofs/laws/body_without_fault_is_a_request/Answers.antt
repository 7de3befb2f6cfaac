use Rattle.pdu.proofs.Public.{request_fits, request_text}
use Rattle.pdu.proofs.laws.body_without_fault_is_a_request.Goals as goal

pub returns : goal.returns
returns c = record { text = request_text; none = request_fits }
