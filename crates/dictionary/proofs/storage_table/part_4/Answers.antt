use Rattle.std.proofs.Common.{refl}
use Rattle.dictionary.specs.StorageClasses.{part_4}
use Rattle.dictionary.proofs.storage_table.part_4.Goals as goal

pub returns : goal.returns
unfolding part_4
returns c = refl
