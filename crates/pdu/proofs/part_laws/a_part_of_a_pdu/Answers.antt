use Rattle.pdu.proofs.Public.{marks_within}
use Rattle.pdu.proofs.part_laws.a_part_of_a_pdu.Goals as goal

pub returns : goal.returns
returns c r d rest headed = marks_within r d rest headed
