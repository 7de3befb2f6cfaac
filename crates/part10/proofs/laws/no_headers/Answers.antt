use Rattle.part10.proofs.Public.{no_headers}
use Rattle.part10.proofs.laws.no_headers.Goals as goal

pub returns : goal.returns
returns c = no_headers
