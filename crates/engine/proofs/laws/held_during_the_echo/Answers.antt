use Rattle.engine.proofs.WorkedRuns.Associations.{held_during_the_echo}
use Rattle.engine.proofs.laws.held_during_the_echo.Goals as goal

pub returns : goal.returns
returns c = held_during_the_echo
