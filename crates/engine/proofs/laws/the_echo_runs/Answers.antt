use Rattle.engine.proofs.WorkedRuns.WholeAssociations.{the_echo_runs}
use Rattle.engine.proofs.laws.the_echo_runs.Goals as goal

pub returns : goal.returns
returns c = the_echo_runs
