use Rattle.std.proofs.Common.{◌≡◌, ◌≤◌, ◌+◌, length, drop}
use Rattle.dicomdir.specs.FileId.{parts_of}
use Rattle.dicomdir.proofs.FileIds.{is_good, first_size}
use Rattle.dicomdir.proofs.file_id.is_file_id.Given as goal

abbrev pub invariant-loop-at : goal.invariant-loop-at
invariant-loop-at l =
    (l.at ≤ length l.text)
    × (is_good (parts_of (drop l.at l.text)) ≡ l.good)
    × (first_size (parts_of (drop l.at l.text)) ≡ l.size)
    × (length (parts_of (drop l.at l.text)) ≡ l.parts)
    × (l.size + l.at ≤ length l.text)
    × (l.parts + l.at ≤ length l.text + 1)

abbrev pub decreases-loop-at : goal.decreases-loop-at
decreases-loop-at l = l.at
