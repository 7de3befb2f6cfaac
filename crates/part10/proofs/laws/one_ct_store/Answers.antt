use Rattle.part10.proofs.Examples.{one_ct_store}
use Rattle.part10.proofs.laws.one_ct_store.Goals as goal

pub returns : goal.returns
returns c = one_ct_store
