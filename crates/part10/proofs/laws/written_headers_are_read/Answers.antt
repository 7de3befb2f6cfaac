use Rattle.part10.proofs.Public.{head_is_read}
use Rattle.part10.proofs.laws.written_headers_are_read.Goals as goal

pub returns : goal.returns
returns c = head_is_read
