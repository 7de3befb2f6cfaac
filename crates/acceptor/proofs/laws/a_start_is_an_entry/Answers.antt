use Rattle.acceptor.proofs.TimerStartsAreEntries.{entry}
use Rattle.acceptor.proofs.laws.a_start_is_an_entry.Goals as goal

pub returns : goal.returns
returns c = entry
