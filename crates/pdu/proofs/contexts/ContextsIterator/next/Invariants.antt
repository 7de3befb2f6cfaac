use Rattle.std.proofs.Common.{◌≡◌, length}
use Rattle.pdu.specs.Items.{items_of}
use Rattle.pdu.specs.Remaining.{proposals_remaining}
use Rattle.pdu.proofs.contexts.ContextsIterator.next.Given as goal

abbrev pub invariant-loop-item : goal.invariant-loop-item
invariant-loop-item l = proposals_remaining l.self ≡ proposals_remaining l.fn.self

abbrev pub decreases-loop-item : goal.decreases-loop-item
decreases-loop-item l = length (items_of l.self.items.rest.now)
