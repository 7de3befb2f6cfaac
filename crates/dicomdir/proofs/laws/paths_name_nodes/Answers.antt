use Rattle.dicomdir.proofs.NoFault.{paths_name_nodes}
use Rattle.dicomdir.proofs.laws.paths_name_nodes.Goals as goal

pub returns : goal.returns
returns c = paths_name_nodes
