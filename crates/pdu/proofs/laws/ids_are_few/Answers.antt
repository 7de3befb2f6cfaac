use Rattle.pdu.proofs.Public.{few_ids}
use Rattle.pdu.proofs.laws.ids_are_few.Goals as goal

pub returns : goal.returns
returns c = few_ids
