use Rattle.std.proofs.Common.{◌≡◌, ◌≤◌, ◌++◌, ℕ, List, length, take}
use Rattle.std.specs.Io.KnownBytes.{Appends}
use Rattle.dicomdir_writing.specs.machine.Building.{laid_text}
use Rattle.dicomdir_writing.proofs.record_writer.write_records.Given as goal

abbrev pub invariant-loop-at : goal.invariant-loop-at
invariant-loop-at g l = record {
  within : l.at ≤ length l.entries;
  sent : (written : List ℕ) × (laid_text l.size l.entries ≡ written ++ laid_text l.size (take l.at l.entries)) × Appends (g.W.Write.contents l.fn.writer) (g.W.Write.contents l.writer) written;
}

abbrev pub decreases-loop-at : goal.decreases-loop-at
decreases-loop-at g l = l.at
