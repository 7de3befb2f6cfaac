-- What `arrange` counts. This product's own profile.
use Rattle.std.specs.Prelude.{◌≡◌}
use Rattle.keyed_files.specs.Counting.{counted_more}
use Rattle.arrange_command.specs.declared.counts.Counts.{Counts}
use Rattle.arrange_command.specs.declared.placing.Placed.{Placed}
use Rattle.arrange_command.specs.declared.placing.Placed.TheVariants.{Put, PassedOver, Renamed}

-- the counts after a file, by what was done with it
abbrev pub with_placed : Placed → Counts → Counts
with_placed Put counts = record counts { put = counted_more counts.put }
with_placed PassedOver counts = record counts { passed_over = counted_more counts.passed_over }
with_placed Renamed counts = record counts { renamed = counted_more counts.renamed }

-- a file was counted once
abbrev pub CountsFile : Counts → Counts → Type 0
CountsFile old new = (placed : Placed) × (new ≡ with_placed placed old)
