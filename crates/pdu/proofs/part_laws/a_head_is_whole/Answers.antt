use Rattle.pdu.proofs.Public.{head_done}
use Rattle.pdu.proofs.part_laws.a_head_is_whole.Goals as goal

pub returns : goal.returns
returns c r d lt six = head_done r d lt six
