use Rattle.std.proofs.Common.{refl}
use Rattle.dictionary.specs.StorageClasses.{part_5}
use Rattle.dictionary.proofs.storage_table.part_5.Goals as goal

pub returns : goal.returns
unfolding part_5
returns c = refl
