use Rattle.engine.proofs.Public.{turns_are_a_run}
use Rattle.engine.proofs.laws.turns_are_a_run.Goals as goal

pub returns : goal.returns
returns c = turns_are_a_run
