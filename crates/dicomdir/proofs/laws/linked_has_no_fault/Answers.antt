use Rattle.dicomdir.proofs.Public.{linked_has_no_fault}
use Rattle.dicomdir.proofs.laws.linked_has_no_fault.Goals as goal

pub returns : goal.returns
returns c = linked_has_no_fault
