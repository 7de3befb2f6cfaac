use Rattle.engine.proofs.WorkedRuns.Associations.{after_the_end}
use Rattle.engine.proofs.laws.after_the_end.Goals as goal

pub returns : goal.returns
returns c = after_the_end
