use Rattle.pdu.proofs.Public.{new_nothing, new_then}
use Rattle.pdu.proofs.laws.pieces_mark_one_after_another.Goals as goal

pub returns : goal.returns
returns c = record { nothing = new_nothing; both = new_then }
