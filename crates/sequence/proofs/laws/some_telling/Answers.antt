use Rattle.sequence.proofs.Public.{some_telling}
use Rattle.sequence.proofs.laws.some_telling.Goals as goal

pub returns : goal.returns
returns c = some_telling
