use Rattle.std.proofs.Common.{◌≡◌, length}
use Rattle.pdu.specs.Items.{items_of}
use Rattle.pdu.specs.Remaining.{syntaxes_remaining}
use Rattle.pdu.proofs.syntaxes.TransferSyntaxesIterator.next.Given as goal

abbrev pub invariant-loop-item : goal.invariant-loop-item
invariant-loop-item l = syntaxes_remaining l.self ≡ syntaxes_remaining l.fn.self

abbrev pub decreases-loop-item : goal.decreases-loop-item
decreases-loop-item l = length (items_of l.self.items.rest.now)
