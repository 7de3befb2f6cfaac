use Rattle.part10.proofs.Public.{one_verdict}
use Rattle.part10.proofs.laws.one_verdict.Goals as goal

pub returns : goal.returns
returns c = one_verdict
