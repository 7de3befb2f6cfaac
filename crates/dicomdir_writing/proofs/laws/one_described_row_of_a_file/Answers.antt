use Rattle.dicomdir_writing.proofs.RowLaws as laws
use Rattle.dicomdir_writing.proofs.laws.one_described_row_of_a_file.Goals as goal

pub returns : goal.returns
returns c = laws.one_described_row
