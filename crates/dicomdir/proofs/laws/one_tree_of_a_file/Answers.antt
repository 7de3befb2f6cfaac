use Rattle.dicomdir.proofs.NoFault.{one_tree_of_file}
use Rattle.dicomdir.proofs.laws.one_tree_of_a_file.Goals as goal

pub returns : goal.returns
returns c = one_tree_of_file
