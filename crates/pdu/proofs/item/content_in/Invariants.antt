use Rattle.std.proofs.Common.{◌≡◌}
use Rattle.pdu.specs.Items.{items_of, of_kind}
use Rattle.pdu.proofs.item.content_in.Given as goal

abbrev pub invariant-loop-item : goal.invariant-loop-item
invariant-loop-item l = of_kind l.kind (items_of l.item-iterator.rest.now) ≡ of_kind l.kind (items_of l.text)
