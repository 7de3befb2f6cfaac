use Rattle.part10.proofs.Public.{one_header}
use Rattle.part10.proofs.laws.one_header.Goals as goal

pub returns : goal.returns
returns c = one_header
