use Rattle.std.proofs.Common.{refl}
use Rattle.dictionary.specs.StorageClasses.{part_6}
use Rattle.dictionary.proofs.storage_table.part_6.Goals as goal

pub returns : goal.returns
unfolding part_6
returns c = refl
