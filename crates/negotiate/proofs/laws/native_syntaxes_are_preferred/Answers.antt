use Rattle.negotiate.proofs.Public.{native_first}
use Rattle.negotiate.proofs.laws.native_syntaxes_are_preferred.Goals as goal

pub returns : goal.returns
returns c = native_first
