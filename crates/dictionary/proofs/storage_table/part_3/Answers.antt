use Rattle.std.proofs.Common.{refl}
use Rattle.dictionary.specs.StorageClasses.{part_3}
use Rattle.dictionary.proofs.storage_table.part_3.Goals as goal

pub returns : goal.returns
unfolding part_3
returns c = refl
