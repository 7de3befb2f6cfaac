use Rattle.folder_filing.proofs.ReportsSurvive.{settled_survives}
use Rattle.folder_filing.proofs.laws.settled_files_survive_a_power_loss.Goals as goal

pub returns : goal.returns
returns c = settled_survives
