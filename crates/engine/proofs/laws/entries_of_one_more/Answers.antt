use Rattle.engine.proofs.Public.{entries_of_more}
use Rattle.engine.proofs.laws.entries_of_one_more.Goals as goal

pub returns : goal.returns
returns c = entries_of_more
