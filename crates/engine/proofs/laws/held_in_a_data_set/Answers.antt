use Rattle.engine.proofs.WorkedRuns.OneCtStore.{held_in_a_data_set}
use Rattle.engine.proofs.laws.held_in_a_data_set.Goals as goal

pub returns : goal.returns
returns c = held_in_a_data_set
