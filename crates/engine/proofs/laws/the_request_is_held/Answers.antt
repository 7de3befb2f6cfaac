use Rattle.engine.proofs.WorkedRuns.WholeAssociations.{the_request_is_held}
use Rattle.engine.proofs.laws.the_request_is_held.Goals as goal

pub returns : goal.returns
returns c = the_request_is_held
