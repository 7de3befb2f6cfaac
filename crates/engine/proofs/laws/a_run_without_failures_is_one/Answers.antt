use Rattle.engine.proofs.WholeRun.UnfailedRuns.{one_run}
use Rattle.engine.proofs.laws.a_run_without_failures_is_one.Goals as goal

pub returns : goal.returns
returns c = one_run
