use Rattle.engine.proofs.WorkedRuns.Associations.{bytes_that_are_no_pdu}
use Rattle.engine.proofs.laws.bytes_that_are_no_pdu.Goals as goal

pub returns : goal.returns
returns c = bytes_that_are_no_pdu
