use Rattle.std.proofs.Common.{ap}
use Rattle.engine.specs.machine.Storing.{finding_of}
use Rattle.engine.specs.machine.Verdicts.{done, undone}
use Rattle.engine.proofs.stores.commit.Goals as goal

pub returns-in-Ok : goal.returns-in-Ok
returns-in-Ok g c = done (ap finding_of c.of.ensures) c.in-Ok.ensures.leaves

pub returns-in-Err : goal.returns-in-Err
returns-in-Err g c = undone (ap finding_of c.of-in-Err.ensures) c.in-Err.ensures.leaves
