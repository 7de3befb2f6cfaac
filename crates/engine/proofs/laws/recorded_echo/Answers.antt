use Rattle.engine.proofs.WorkedRuns.Associations.{recorded_echo}
use Rattle.engine.proofs.laws.recorded_echo.Goals as goal

pub returns : goal.returns
returns c = recorded_echo
