use Rattle.engine.proofs.WorkedRuns.FaultyDataSets.{verdicts_on_faults}
use Rattle.engine.proofs.laws.verdicts_on_faults.Goals as goal

pub returns : goal.returns
returns c = verdicts_on_faults
