use Rattle.part10.proofs.Public.{least_read}
use Rattle.part10.proofs.laws.least_headers_are_read.Goals as goal

pub returns : goal.returns
returns c = least_read
