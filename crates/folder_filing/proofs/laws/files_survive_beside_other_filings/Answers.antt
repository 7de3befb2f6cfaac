use Rattle.folder_filing.proofs.FilingsShare.{survives_among}
use Rattle.folder_filing.proofs.laws.files_survive_beside_other_filings.Goals as goal

pub returns : goal.returns
returns c = survives_among
