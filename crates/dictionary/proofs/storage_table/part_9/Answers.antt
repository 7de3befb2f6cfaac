use Rattle.std.proofs.Common.{refl}
use Rattle.dictionary.specs.StorageClasses.{part_9}
use Rattle.dictionary.proofs.storage_table.part_9.Goals as goal

pub returns : goal.returns
unfolding part_9
returns c = refl
