use Rattle.std.proofs.Common.{refl}
use Rattle.dictionary.specs.StorageClasses.{part_2}
use Rattle.dictionary.proofs.storage_table.part_2.Goals as goal

pub returns : goal.returns
unfolding part_2
returns c = refl
