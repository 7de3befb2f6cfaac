use Rattle.dicomdir.proofs.NoFault.{nodes_are_records}
use Rattle.dicomdir.proofs.laws.nodes_are_records.Goals as goal

pub returns : goal.returns
returns c = nodes_are_records
