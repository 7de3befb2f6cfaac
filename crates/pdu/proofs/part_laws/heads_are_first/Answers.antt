use Rattle.pdu.proofs.Public.{spot_opening, in_data}
use Rattle.pdu.proofs.part_laws.heads_are_first.Goals as goal

pub returns : goal.returns
returns c = record { head = spot_opening; value = in_data }
