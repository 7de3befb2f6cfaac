use Rattle.std.proofs.Common.{◌≡◌, ℕ, List, length, map, reverse}
use Rattle.sequence.specs.Tree.{Elements}
use Rattle.dicomdir.specs.Directory.{Record}
use Rattle.dicomdir.specs.DirFault.{links_of}
use Rattle.dicomdir.specs.NodesInUse.{node_of}
use Rattle.dicomdir.specs.machine.Trail.{AreRead}
use Rattle.dicomdir.proofs.Trails.{remaining_in}
use Rattle.dicomdir.proofs.Following.{Following}
use Rattle.dicomdir.proofs.links.follow.Given as goal

abbrev pub invariant-loop-pending : goal.invariant-loop-pending
invariant-loop-pending g l = record {
  size : length l.reached.items ≡ length l.entries;
  following : (start : ℕ) (es : Elements) (records : List Record) → AreRead l.root l.entries start es records
      → Following (links_of start es records) l.entries l.reached.items (reverse l.trail.items) l.pending (map node_of l.initial.tree.items) (map node_of l.tree.items) l.last;
}

abbrev pub decreases-loop-pending : goal.decreases-loop-pending
decreases-loop-pending g l = remaining_in l.reached.items
