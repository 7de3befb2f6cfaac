use Rattle.pdu.proofs.Public.{new_rest, rest_rest}
use Rattle.pdu.proofs.laws.marks_depend_on_the_rest.Goals as goal

pub returns : goal.returns
returns c = record { marks = new_rest; rest = rest_rest }
