use Rattle.sequence.proofs.Public.{need_least}
use Rattle.sequence.proofs.laws.a_header_consumes_eight_bytes.Goals as goal

pub returns : goal.returns
returns c = need_least
