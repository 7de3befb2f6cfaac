use Rattle.pdu.proofs.Public.{head_part}
use Rattle.pdu.proofs.part_laws.a_part_of_a_head.Goals as goal

pub returns : goal.returns
returns c r d lt = head_part r d lt
