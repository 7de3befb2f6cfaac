use Rattle.sequence.proofs.Public.{one_tree}
use Rattle.sequence.proofs.laws.one_tree.Goals as goal

pub returns : goal.returns
returns c = one_tree
