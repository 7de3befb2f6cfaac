use Rattle.std.proofs.Common.{length, reverse}
use Rattle.dicomdir.specs.Paths.{Links}
use Rattle.dicomdir.specs.machine.Trail.{AreMarks}
use Rattle.dicomdir.proofs.Trails.{Climbed}
use Rattle.dicomdir.proofs.links.climb.Given as goal

abbrev pub invariant-loop-mark : goal.invariant-loop-mark
invariant-loop-mark g l =
    (links : Links) → AreMarks links (reverse l.initial.trail.items) → Climbed links (reverse l.initial.trail.items) (reverse l.trail.items)

abbrev pub decreases-loop-mark : goal.decreases-loop-mark
decreases-loop-mark g l = length l.trail.items
