use Rattle.dicomdir.proofs.NoFault.{one_list_of_nodes}
use Rattle.dicomdir.proofs.laws.one_list_of_nodes.Goals as goal

pub returns : goal.returns
returns c = one_list_of_nodes
