use Rattle.std.proofs.Common.{refl}
use Rattle.dictionary.specs.StorageClasses.{part_0}
use Rattle.dictionary.proofs.storage_table.part_0.Goals as goal

pub returns : goal.returns
unfolding part_0
returns c = refl
