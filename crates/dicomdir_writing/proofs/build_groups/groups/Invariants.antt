use Rattle.std.proofs.Common.{take}
use Rattle.dicomdir_writing.specs.TreeOf.{rows_at, row_groups, key_for}
use Rattle.dicomdir_writing.proofs.GroupsKeepSeenOrder.{Grouped}
use Rattle.dicomdir_writing.specs.machine.FirstSeen.{texts}
use Rattle.dicomdir_writing.proofs.build_groups.groups.Given as goal

abbrev pub invariant-loop-row : goal.invariant-loop-row
invariant-loop-row g l = Grouped (key_for l.level) (take l.row-index (rows_at l.rows)) (texts l.seen.keys) (row_groups l.groups.items)
