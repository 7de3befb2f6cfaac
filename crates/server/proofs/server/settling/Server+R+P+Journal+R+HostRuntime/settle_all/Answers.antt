-- What the connections before left is the same.
use Rattle.server.proofs.server.settling.Server+R+P+Journal+R+HostRuntime.settle_all.Goals as goal

pub invariant_of-slot-clause-rested : goal.invariant_of-slot-clause-rested
invariant_of-slot-clause-rested g c = c.in-Some-get_mut.slot.now.rested

pub invariant_of-slot-clause-closed : goal.invariant_of-slot-clause-closed
invariant_of-slot-clause-closed g c = c.in-Some-get_mut.slot.now.closed
