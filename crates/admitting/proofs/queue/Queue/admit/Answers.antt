-- The one that was found is taken out.
use Rattle.admitting.proofs.FirstAdmittedGetsSlot.{gets}
use Rattle.admitting.proofs.queue.Queue.admit.Goals as goal

pub returns-clause-admits : goal.returns-clause-admits
returns-clause-admits g c =
    let found = c.in_ok-at.ensures.finds in
    rw (← c.free_vacant.ensures) (gets _ _ _ _ _ _ _ found.0 c.remove.ensures.value c.remove.ensures.items found.1 (found.2 _))
