-- What is in a box is what its owner has there.
use Rattle.std.proofs.Common.{lit<}
use Rattle.serving.proofs.open_connection.turns.take.Goals as goal

pub take-requires : goal.take-requires
take-requires g c = (lit< tt, rw c.deref_mut.ensures.value c.requires.draft)

pub returns-clause-settings : goal.returns-clause-settings
returns-clause-settings g c = rw (← c.deref_mut.ensures.value) c.take.ensures.settings

pub returns-clause-moved : goal.returns-clause-moved
returns-clause-moved g c = rw (← c.deref_mut.ensures.value) c.take.ensures.moved
