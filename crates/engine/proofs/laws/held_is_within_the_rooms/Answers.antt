use Rattle.engine.proofs.HeldBytes.HeldIsWithinRooms.{held_is_within_rooms}
use Rattle.engine.proofs.laws.held_is_within_the_rooms.Goals as goal

pub returns : goal.returns
returns c = held_is_within_rooms
