use Rattle.engine.proofs.WorkedRuns.VerdictOnOneImage.{verdicts_on_one_image}
use Rattle.engine.proofs.laws.verdicts_on_one_image.Goals as goal

pub returns : goal.returns
returns c = verdicts_on_one_image
