use Rattle.std.proofs.Common.{◌≡◌, ◌≤◌, ◌+◌, length}
use Rattle.pdu.specs.Items.{items_of, of_kind}
use Rattle.pdu.proofs.item.count_of.Given as goal

abbrev pub invariant-loop-item : goal.invariant-loop-item
invariant-loop-item l = record {
  few : l.count + length (items_of l.item-iterator.rest.now) ≤ length (items_of l.text);
  counted : l.count + length (of_kind l.kind (items_of l.item-iterator.rest.now)) ≡ length (of_kind l.kind (items_of l.text));
}
