use Rattle.sequence.proofs.Public.{no_header}
use Rattle.sequence.proofs.laws.no_header.Goals as goal

pub returns : goal.returns
returns c = no_header
