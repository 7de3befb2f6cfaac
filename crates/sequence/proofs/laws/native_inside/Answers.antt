use Rattle.sequence.proofs.Public.{native_inside}
use Rattle.sequence.proofs.laws.native_inside.Goals as goal

pub returns : goal.returns
returns c = native_inside
