use Rattle.std.proofs.Common.{refl}
use Rattle.dictionary.specs.StorageClasses.{part_8}
use Rattle.dictionary.proofs.storage_table.part_8.Goals as goal

pub returns : goal.returns
unfolding part_8
returns c = refl
