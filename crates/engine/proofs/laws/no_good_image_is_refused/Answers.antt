use Rattle.engine.proofs.StoresAreJudged.GoodImages.{no_good_image_is_refused}
use Rattle.engine.proofs.laws.no_good_image_is_refused.Goals as goal

pub returns : goal.returns
returns c = no_good_image_is_refused
