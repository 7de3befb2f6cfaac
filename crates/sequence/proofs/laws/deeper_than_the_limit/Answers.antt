use Rattle.sequence.proofs.Public.{too_deep}
use Rattle.sequence.proofs.laws.deeper_than_the_limit.Goals as goal

pub returns : goal.returns
returns c = too_deep
