-- The laws of `folder_filing` on a filing, for each connection that has ended.
use Rattle.server.proofs.SuccessesSurvive.{slots_keep_successes}
use Rattle.server.proofs.laws.successes_survive_a_power_loss.Goals as goal

pub returns : goal.returns
returns g c = slots_keep_successes c.reported_files_survive_a_power_loss.ensures c.settled_files_survive_a_power_loss.ensures g.P.Policy.allows g.P.Policy.configuration
