use Rattle.pdu.proofs.Public.{pdv_head_part}
use Rattle.pdu.proofs.part_laws.a_part_of_a_pdv_head.Goals as goal

pub returns : goal.returns
returns c r d b rest s lt = pdv_head_part r d b rest s lt
