-- No peer has more slots than one may have.
use Rattle.std.proofs.Common.{rules}
use Rattle.admitting.proofs.PeersStayWithinLimit.{admitted}
use Rattle.admitting.proofs.slots.Slots.give.Goals as goal

pub invariant_of-self : goal.invariant_of-self
invariant_of-self g c =
    admitted c.args.peer c.in-Some.slot c.self.inside.per_peer c.self.inside.peers.items (search rules) (search rules) c.self.invariant
