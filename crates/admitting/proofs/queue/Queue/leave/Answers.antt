-- The one that has the number is taken out.
use Rattle.admitting.proofs.FirstNamedLeaves.{leaves}
use Rattle.admitting.proofs.queue.Queue.leave.Goals as goal

pub returns-clause-remaining : goal.returns-clause-remaining
returns-clause-remaining g c = λ _.
    let found = c.in-Some.ensures.finds in
    leaves _ _ _ _ _ found.0 c.remove-gone.ensures.value c.remove-gone.ensures.items found.1 found.2
