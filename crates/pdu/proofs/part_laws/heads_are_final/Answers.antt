use Rattle.pdu.proofs.Public.{same_frame, same_head}
use Rattle.pdu.proofs.part_laws.heads_are_final.Goals as goal

pub returns : goal.returns
returns c = record { frame = same_frame; value = same_head }
