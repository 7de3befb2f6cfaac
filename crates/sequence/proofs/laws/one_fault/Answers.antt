use Rattle.sequence.proofs.Public.{one_fault}
use Rattle.sequence.proofs.laws.one_fault.Goals as goal

pub returns : goal.returns
returns c = one_fault
