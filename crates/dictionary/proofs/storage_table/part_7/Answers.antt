use Rattle.std.proofs.Common.{refl}
use Rattle.dictionary.specs.StorageClasses.{part_7}
use Rattle.dictionary.proofs.storage_table.part_7.Goals as goal

pub returns : goal.returns
unfolding part_7
returns c = refl
