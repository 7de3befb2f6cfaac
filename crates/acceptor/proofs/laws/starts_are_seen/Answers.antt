use Rattle.acceptor.proofs.TimerStartsAreEntries.{seen}
use Rattle.acceptor.proofs.laws.starts_are_seen.Goals as goal

pub returns : goal.returns
returns c = seen
