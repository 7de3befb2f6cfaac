use Rattle.engine.proofs.WorkedRuns.Associations.{another_called_title}
use Rattle.engine.proofs.laws.another_called_title.Goals as goal

pub returns : goal.returns
returns c = another_called_title
