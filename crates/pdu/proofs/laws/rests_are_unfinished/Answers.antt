use Rattle.pdu.proofs.Public.{rest_is_rest, rest_alone}
use Rattle.pdu.proofs.laws.rests_are_unfinished.Goals as goal

pub returns : goal.returns
returns c = record { rest = rest_is_rest; alone = rest_alone }
