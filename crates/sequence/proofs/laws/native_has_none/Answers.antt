use Rattle.sequence.proofs.Public.{native_holds}
use Rattle.sequence.proofs.laws.native_has_none.Goals as goal

pub returns : goal.returns
returns c = native_holds
