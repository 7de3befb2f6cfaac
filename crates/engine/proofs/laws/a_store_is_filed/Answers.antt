use Rattle.engine.proofs.WorkedRuns.OneCtStore.{a_store_is_filed}
use Rattle.engine.proofs.laws.a_store_is_filed.Goals as goal

pub returns : goal.returns
returns c = a_store_is_filed
