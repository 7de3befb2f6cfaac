use Rattle.part10.proofs.Public.{other_syntax_is_a_fault}
use Rattle.part10.proofs.laws.other_syntax_is_a_fault.Goals as goal

pub returns : goal.returns
returns c = other_syntax_is_a_fault
