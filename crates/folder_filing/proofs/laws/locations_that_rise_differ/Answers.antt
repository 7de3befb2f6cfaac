use Rattle.folder_filing.proofs.NamesStayOrderly.{are_apart}
use Rattle.folder_filing.proofs.laws.locations_that_rise_differ.Goals as goal

pub returns : goal.returns
returns c = are_apart
