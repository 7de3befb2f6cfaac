use Rattle.std.proofs.Common.{◌≤◌, length}
use Rattle.sequence.specs.Tree.{Items}
use Rattle.dicomdir.specs.machine.Texts.{HasItems}
use Rattle.dicomdir.proofs.RecordsAreAsSpelled.{ReadUpTo}
use Rattle.dicomdir.proofs.records.read_records.Given as goal

abbrev pub invariant-loop-head : goal.invariant-loop-head
invariant-loop-head g l = record {
  fits : length l.rest ≤ length l.text;
  read : (items : Items) → HasItems l.syntax items l.text → ReadUpTo l.syntax l.first items l.text l.rest l.fn.records.items l.records.items;
}

abbrev pub decreases-loop-head : goal.decreases-loop-head
decreases-loop-head g l = length l.rest
