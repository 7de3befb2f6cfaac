-- No peer has a slot yet.
use Rattle.std.proofs.Common.{rules}
use Rattle.admitting.proofs.PeersStayWithinLimit.{free_within}
use Rattle.admitting.proofs.slots.Slots.new.Goals as goal

pub invariant_of-result : goal.invariant_of-result
invariant_of-result g c peer = free_within peer c.args.count c.args.per_peer c.in_ok-from_elem.field-0.items (search rules)
