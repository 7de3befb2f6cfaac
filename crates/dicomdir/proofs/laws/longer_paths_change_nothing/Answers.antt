use Rattle.dicomdir.proofs.FaultFree.{longer_paths_change_nothing}
use Rattle.dicomdir.proofs.laws.longer_paths_change_nothing.Goals as goal

pub returns : goal.returns
returns c = longer_paths_change_nothing
