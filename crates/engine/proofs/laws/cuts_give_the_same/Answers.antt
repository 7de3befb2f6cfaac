use Rattle.engine.proofs.WholeRun.UnfailedRuns.{cuts_give_the_same}
use Rattle.engine.proofs.laws.cuts_give_the_same.Goals as goal

pub returns : goal.returns
returns c = cuts_give_the_same
