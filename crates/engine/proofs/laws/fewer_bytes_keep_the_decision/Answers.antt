use Rattle.engine.proofs.Public.{fewer_keep_the_decision}
use Rattle.engine.proofs.laws.fewer_bytes_keep_the_decision.Goals as goal

pub returns : goal.returns
returns c = fewer_keep_the_decision
