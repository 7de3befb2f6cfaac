use Rattle.dicomdir_writing.proofs.DescriptionLaws as laws
use Rattle.dicomdir_writing.proofs.laws.descriptions_cost_no_row.Goals as goal

pub returns : goal.returns
returns c = laws.no_row_is_lost
