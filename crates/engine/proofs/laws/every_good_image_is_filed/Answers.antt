use Rattle.engine.proofs.WholeRun.UnfailedRuns.{every_good_image_is_filed}
use Rattle.engine.proofs.laws.every_good_image_is_filed.Goals as goal

pub returns : goal.returns
returns c = every_good_image_is_filed
