use Rattle.std.proofs.Common.{refl}
use Rattle.dictionary.specs.StorageClasses.{part_11}
use Rattle.dictionary.proofs.storage_table.part_11.Goals as goal

pub returns : goal.returns
unfolding part_11
returns c = refl
