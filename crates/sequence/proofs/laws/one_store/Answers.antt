use Rattle.sequence.proofs.Public.{one_store}
use Rattle.sequence.proofs.laws.one_store.Goals as goal

pub returns : goal.returns
returns c = one_store
