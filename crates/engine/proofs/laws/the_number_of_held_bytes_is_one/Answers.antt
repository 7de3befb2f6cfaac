use Rattle.engine.proofs.HeldBytes.HeldIsOne.{held_is_one}
use Rattle.engine.proofs.laws.the_number_of_held_bytes_is_one.Goals as goal

pub returns : goal.returns
returns c = held_is_one
