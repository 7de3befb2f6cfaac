use Rattle.pdu.proofs.Public.{request_kept}
use Rattle.pdu.proofs.laws.requests_keep_their_form.Goals as goal

pub returns : goal.returns
returns c = request_kept
