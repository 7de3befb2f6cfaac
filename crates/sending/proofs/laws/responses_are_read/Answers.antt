use Rattle.sending.proofs.ResponseIsRead.{responses_read}
use Rattle.sending.proofs.laws.responses_are_read.Goals as goal

pub returns : goal.returns
returns c = responses_read
