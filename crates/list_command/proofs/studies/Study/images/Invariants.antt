-- The files of the series so far.
use Rattle.std.proofs.Common.{◌≡◌, ℕ, List, length, take, min, ◌^◌, ◌-◌}
use Rattle.list_command.specs.Tree.{files_in}
use Rattle.list_command.proofs.studies.Study.images.Given as goal

abbrev pub invariant-loop-index : goal.invariant-loop-index
invariant-loop-index g l = (study : List ℕ) → l.images ≡ min (length (files_in study (take l.index l.self.series.entries))) (2 ^ 64 - 1)
