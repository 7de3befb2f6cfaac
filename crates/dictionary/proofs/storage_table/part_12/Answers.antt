use Rattle.std.proofs.Common.{refl}
use Rattle.dictionary.specs.StorageClasses.{part_12}
use Rattle.dictionary.proofs.storage_table.part_12.Goals as goal

pub returns : goal.returns
unfolding part_12
returns c = refl
