use Rattle.pdu.proofs.Public.{plain_part}
use Rattle.pdu.proofs.part_laws.a_part_of_a_body.Goals as goal

pub returns : goal.returns
returns c r d rest s = plain_part r d rest s
