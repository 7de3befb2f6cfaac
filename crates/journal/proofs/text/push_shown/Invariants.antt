-- The bytes so far are shown, and the others have room.
use Rattle.std.proofs.Common.{◌≡◌, ◌≤◌, ◌+◌, ◌-◌, ◌++◌, length, map, take}
use Rattle.journal.specs.Printable as spelling
use Rattle.journal.proofs.text.push_shown.Given as goal

abbrev pub invariant-loop-byte : goal.invariant-loop-byte
invariant-loop-byte g l = record {
  value : l.text.bytes ≡ l.fn.text.bytes ++ map spelling.shown (take l.byte-index l.bytes);
  room : length l.text.bytes + (length l.bytes - l.byte-index) ≤ g.row.N;
}
