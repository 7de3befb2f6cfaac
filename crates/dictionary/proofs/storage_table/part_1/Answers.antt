use Rattle.std.proofs.Common.{refl}
use Rattle.dictionary.specs.StorageClasses.{part_1}
use Rattle.dictionary.proofs.storage_table.part_1.Goals as goal

pub returns : goal.returns
unfolding part_1
returns c = refl
