use Rattle.sequence.proofs.Public.{fault_stays}
use Rattle.sequence.proofs.laws.a_fault_stays.Goals as goal

pub returns : goal.returns
returns c = fault_stays
