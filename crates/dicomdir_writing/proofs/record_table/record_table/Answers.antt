use Rattle.std.proofs.Common.{refl}
use Rattle.dicomdir_writing.proofs.record_table.record_table.Goals as goal

pub returns : goal.returns
returns c = refl
