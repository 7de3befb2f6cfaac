use Rattle.sequence.proofs.OneReading.OneReport.{one_telling}
use Rattle.sequence.proofs.laws.one_telling.Goals as goal

pub returns : goal.returns
returns c = one_telling
