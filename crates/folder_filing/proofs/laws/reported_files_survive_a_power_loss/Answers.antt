use Rattle.folder_filing.proofs.ReportsSurvive.{orderly_survives}
use Rattle.folder_filing.proofs.laws.reported_files_survive_a_power_loss.Goals as goal

pub returns : goal.returns
returns c = orderly_survives
