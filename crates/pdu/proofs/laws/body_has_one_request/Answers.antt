use Rattle.pdu.proofs.BodySpellsOneRequest.{one_request}
use Rattle.pdu.proofs.laws.body_has_one_request.Goals as goal

pub returns : goal.returns
returns c = one_request
