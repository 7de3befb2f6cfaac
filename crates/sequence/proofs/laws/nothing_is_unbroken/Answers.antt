use Rattle.sequence.proofs.Public.{nothing_unbroken}
use Rattle.sequence.proofs.laws.nothing_is_unbroken.Goals as goal

pub returns : goal.returns
returns c = nothing_unbroken
