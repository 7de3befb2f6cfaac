use Rattle.sequence.proofs.WholeDataSet.WholeHasNoFault.{whole_has_no_fault}
use Rattle.sequence.proofs.laws.whole_has_no_fault.Goals as goal

pub returns : goal.returns
returns c = whole_has_no_fault
