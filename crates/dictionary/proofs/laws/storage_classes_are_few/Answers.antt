use Rattle.dictionary.proofs.Public.{length-storage_classes}
use Rattle.dictionary.proofs.laws.storage_classes_are_few.Goals as goal

pub returns : goal.returns
returns c = length-storage_classes
