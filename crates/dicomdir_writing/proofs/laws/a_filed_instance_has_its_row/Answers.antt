use Rattle.dicomdir_writing.proofs.RowLaws.{filed_has_row}
use Rattle.dicomdir_writing.proofs.laws.a_filed_instance_has_its_row.Goals as goal

pub returns : goal.returns
returns c = filed_has_row
