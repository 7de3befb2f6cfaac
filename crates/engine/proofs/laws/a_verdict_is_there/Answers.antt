use Rattle.engine.proofs.StoresAreJudged.VerdictIsThere.{a_verdict_is_there}
use Rattle.engine.proofs.laws.a_verdict_is_there.Goals as goal

pub returns : goal.returns
returns c = a_verdict_is_there
