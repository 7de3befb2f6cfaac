-- No peer has more slots than one may have.
use Rattle.std.proofs.Common.{arith}
use Rattle.admitting.proofs.PeersStayWithinLimit.{freed}
use Rattle.admitting.proofs.slots.Slots.leave.Goals as goal

pub invariant_of-self : goal.invariant_of-self
invariant_of-self g c peer =
    let fewer = freed peer c.args.slot c.self.inside.peers.items in
    let before = c.self.invariant peer in
    omega arith
