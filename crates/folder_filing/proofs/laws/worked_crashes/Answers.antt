use Rattle.folder_filing.proofs.ReportsSurvive.{worked_crashes}
use Rattle.folder_filing.proofs.laws.worked_crashes.Goals as goal

pub returns : goal.returns
returns c = worked_crashes
