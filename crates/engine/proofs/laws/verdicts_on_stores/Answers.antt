use Rattle.engine.proofs.WorkedRuns.WholeAssociations.{verdicts_on_stores}
use Rattle.engine.proofs.laws.verdicts_on_stores.Goals as goal

pub returns : goal.returns
returns c = verdicts_on_stores
