use Rattle.engine.proofs.WorkedRuns.OneCtStore.{a_close_in_a_data_set}
use Rattle.engine.proofs.laws.a_close_in_a_data_set.Goals as goal

pub returns : goal.returns
returns c = a_close_in_a_data_set
