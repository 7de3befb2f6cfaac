use Rattle.folder_filing.proofs.NamesStayOrderly.{worked_names}
use Rattle.folder_filing.proofs.laws.worked_names.Goals as goal

pub returns : goal.returns
returns c = worked_names
