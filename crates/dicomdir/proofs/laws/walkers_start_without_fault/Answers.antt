use Rattle.dicomdir.proofs.Public.{starts_good}
use Rattle.dicomdir.proofs.laws.walkers_start_without_fault.Goals as goal

pub returns : goal.returns
returns c = starts_good
