use Rattle.engine.proofs.StoresAreJudged.VerdictIsOne.{a_verdict_is_one}
use Rattle.engine.proofs.laws.a_verdict_is_one.Goals as goal

pub returns : goal.returns
returns c = a_verdict_is_one
