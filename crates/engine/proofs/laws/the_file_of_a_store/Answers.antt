use Rattle.engine.proofs.WorkedRuns.VerdictOnOneImage.{the_file_of_a_store}
use Rattle.engine.proofs.laws.the_file_of_a_store.Goals as goal

pub returns : goal.returns
returns c = the_file_of_a_store
