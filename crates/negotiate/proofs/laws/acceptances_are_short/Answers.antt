use Rattle.negotiate.proofs.Public.{accepts_short}
use Rattle.negotiate.proofs.laws.acceptances_are_short.Goals as goal

pub returns : goal.returns
returns c = accepts_short
