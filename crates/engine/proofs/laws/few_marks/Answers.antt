use Rattle.engine.proofs.Public.{few_marks}
use Rattle.engine.proofs.laws.few_marks.Goals as goal

pub returns : goal.returns
returns c = few_marks
