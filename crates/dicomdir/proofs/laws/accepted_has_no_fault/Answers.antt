use Rattle.dicomdir.proofs.NoFault.{accepted_has_no_fault}
use Rattle.dicomdir.proofs.laws.accepted_has_no_fault.Goals as goal

pub returns : goal.returns
returns c = accepted_has_no_fault
