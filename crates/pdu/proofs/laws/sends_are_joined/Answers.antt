use Rattle.pdu.proofs.Public.{known_nothing, known_then, all_nothing, all_then, sends_part, sends_then}
use Rattle.pdu.proofs.laws.sends_are_joined.Goals as goal

pub returns : goal.returns
returns c = record { known_nothing = known_nothing; known = known_then; nothing = all_nothing; all = all_then; failed = sends_part; both = sends_then }
