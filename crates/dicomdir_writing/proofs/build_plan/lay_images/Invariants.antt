use Rattle.std.proofs.Common.{◌≤◌, length, drop}
use Rattle.dicomdir_writing.specs.TreeOf.{rows_at, images}
use Rattle.dicomdir_writing.specs.machine.Building.{Lays}
use Rattle.dicomdir_writing.proofs.build_plan.lay_images.Given as goal

abbrev pub invariant-loop-at : goal.invariant-loop-at
invariant-loop-at g l = record {
  within : l.at ≤ length l.rows;
  laid : Lays (images (rows_at (drop l.at l.rows))) l.fn.plan.entries.items l.plan.entries.items l.fn.plan.size l.plan.size l.chain.first l.chain.last;
}

abbrev pub decreases-loop-at : goal.decreases-loop-at
decreases-loop-at g l = l.at
