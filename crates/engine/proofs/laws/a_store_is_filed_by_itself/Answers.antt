use Rattle.engine.proofs.StoresAreJudged.GoodImages.{filed_by_itself}
use Rattle.engine.proofs.laws.a_store_is_filed_by_itself.Goals as goal

pub returns : goal.returns
returns c = filed_by_itself
