use Rattle.std.proofs.Common.{◌≤◌, length, drop}
use Rattle.dicomdir_writing.specs.TreeOf.{row_groups, forest_for, depth}
use Rattle.dicomdir.specs.Level.{lower_level}
use Rattle.dicomdir_writing.specs.machine.Building.{Lays, groups_forest}
use Rattle.dicomdir_writing.specs.Record.{record_for}
use Rattle.dicomdir_writing.proofs.build_plan.+lay.Given as goal

abbrev pub invariant-loop-at : goal.invariant-loop-at
invariant-loop-at g l = record {
  within : l.at ≤ length l.groups.items;
  laid : Lays (groups_forest (record_for l.level) (forest_for (lower_level l.level)) (drop l.at (row_groups l.groups.items))) l.fn.plan.entries.items l.plan.entries.items l.fn.plan.size l.plan.size l.chain.first l.chain.last;
}

abbrev pub decreases-loop-at : goal.decreases-loop-at
decreases-loop-at g l = l.at

abbrev pub decreases-lay : goal.decreases-lay
decreases-lay g l = depth l.level
