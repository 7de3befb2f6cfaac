use Rattle.std.proofs.Common.{take}
use Rattle.std.specs.List.{AllByRecursion}
use Rattle.dicomdir_writing.specs.Keys.{IsRow}
use Rattle.dicomdir_writing.specs.TreeOf.{rows_at}
use Rattle.dicomdir_writing.specs.machine.FirstSeen.{texts}
use Rattle.dicomdir_writing.proofs.GroupsKeepSeenOrder.{Leaves}
use Rattle.dicomdir_writing.proofs.duplicates.leave_out_duplicates.Given as goal

abbrev pub invariant-loop-at : goal.invariant-loop-at
invariant-loop-at g l = record {
  leaves : Leaves l.rows l.at (texts l.seen.keys) (rows_at l.kept.rows.items) l.kept.duplicates.items;
  valid : AllByRecursion IsRow (take l.at l.rows);
}
