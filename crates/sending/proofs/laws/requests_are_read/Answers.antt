use Rattle.sending.proofs.RequestIsRead.{requests_read}
use Rattle.sending.proofs.laws.requests_are_read.Goals as goal

pub returns : goal.returns
returns c = requests_read
