use Rattle.dicomdir_writing.proofs.Examples.{no_rows_are_linked}
use Rattle.dicomdir_writing.proofs.laws.no_rows_are_linked.Goals as goal

pub returns : goal.returns
returns c = no_rows_are_linked
