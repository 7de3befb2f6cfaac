use Rattle.std.proofs.Common.{◌≡◌, ℕ, List, drop}
use Rattle.dicomdir.specs.Directory.{Record}
use Rattle.dicomdir.specs.DirFault.{unreached_fault}
use Rattle.dicomdir.specs.machine.Trail.{AreFlagged}
use Rattle.dicomdir.proofs.links.all_reached.Given as goal

abbrev pub invariant-loop-at : goal.invariant-loop-at
invariant-loop-at l =
    (records : List Record) (positions : List ℕ) → AreFlagged l.entries l.reached records positions
    → unreached_fault positions (drop l.at records) ≡ unreached_fault positions records
