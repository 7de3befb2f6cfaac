use Rattle.part10.proofs.Verdicts.{consumed_or_faulty}
use Rattle.part10.proofs.laws.consumed_or_faulty.Goals as goal

pub returns : goal.returns
returns c = consumed_or_faulty
