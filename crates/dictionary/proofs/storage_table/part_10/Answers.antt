use Rattle.std.proofs.Common.{refl}
use Rattle.dictionary.specs.StorageClasses.{part_10}
use Rattle.dictionary.proofs.storage_table.part_10.Goals as goal

pub returns : goal.returns
unfolding part_10
returns c = refl
