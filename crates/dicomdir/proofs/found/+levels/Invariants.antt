use Rattle.element.specs.Header.{item_end_tag, sequence_end_tag}
use Rattle.std.proofs.Common.{◌≤◌, ◌+◌, ◌*◌, ℕ, List, ◌++◌, length}
use Rattle.sequence.specs.Tree.{Elements, Items, delimitation}
use Rattle.dicomdir.specs.machine.Texts.{ElementsThen, ItemsThen}
use Rattle.dicomdir.proofs.ElementsFoundByTag.{SomeElements, SomeItems}
use Rattle.dicomdir.proofs.found.+levels.Given as goal

abbrev pub decreases-after_content : goal.decreases-after_content
decreases-after_content l = 2 * length l.text.now + 1

abbrev pub decreases-after_elements : goal.decreases-after_elements
decreases-after_elements l = 2 * length l.text.now

abbrev pub decreases-after_item : goal.decreases-after_item
decreases-after_item l = 2 * length l.text.now + 1

abbrev pub decreases-after_items : goal.decreases-after_items
decreases-after_items l = 2 * length l.text.now

abbrev pub invariant-after_elements-loop-head : goal.invariant-after_elements-loop-head
invariant-after_elements-loop-head l = record {
  fits : length l.rest ≤ length l.text;
  remaining : (es : Elements) (rest : List ℕ) → ElementsThen l.syntax 0 es (delimitation item_end_tag ++ rest) l.text → SomeElements l.syntax (delimitation item_end_tag ++ rest) l.rest;
}

abbrev pub decreases-after_elements-loop-head : goal.decreases-after_elements-loop-head
decreases-after_elements-loop-head l = length l.rest

abbrev pub invariant-after_items-loop-head : goal.invariant-after_items-loop-head
invariant-after_items-loop-head l = record {
  fits : length l.rest ≤ length l.text;
  remaining : (items : Items) (rest : List ℕ) → ItemsThen l.syntax items (delimitation sequence_end_tag ++ rest) l.text → SomeItems l.syntax (delimitation sequence_end_tag ++ rest) l.rest;
}

abbrev pub decreases-after_items-loop-head : goal.decreases-after_items-loop-head
decreases-after_items-loop-head l = length l.rest
