use Rattle.engine.proofs.WorkedRuns.Associations.{a_request_above_the_room}
use Rattle.engine.proofs.laws.a_request_above_the_room.Goals as goal

pub returns : goal.returns
returns c = a_request_above_the_room
