use Rattle.engine.proofs.Public.{one_turn_more}
use Rattle.engine.proofs.laws.one_turn_more.Goals as goal

pub returns : goal.returns
returns c = one_turn_more
