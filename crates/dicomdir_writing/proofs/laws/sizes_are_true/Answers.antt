use Rattle.dicomdir_writing.proofs.DirectoryHasItsText.{sizes_are_true}
use Rattle.dicomdir_writing.proofs.laws.sizes_are_true.Goals as goal

pub returns : goal.returns
returns c = sizes_are_true
