use Rattle.pdu.proofs.WholeValuesAreMarked.{values_marked}
use Rattle.pdu.proofs.laws.whole_values_are_marked.Goals as goal

pub returns : goal.returns
returns c = values_marked
