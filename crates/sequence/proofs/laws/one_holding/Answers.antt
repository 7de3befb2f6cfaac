use Rattle.sequence.proofs.OneReading.OneReport.{one_holding}
use Rattle.sequence.proofs.laws.one_holding.Goals as goal

pub returns : goal.returns
returns c = one_holding
