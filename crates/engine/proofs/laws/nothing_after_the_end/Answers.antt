use Rattle.engine.proofs.AlongTimelines.NothingAfterTheEnd.{nothing_after_the_end}
use Rattle.engine.proofs.laws.nothing_after_the_end.Goals as goal

pub returns : goal.returns
returns c = nothing_after_the_end
