use Rattle.std.proofs.Common.{◌≡◌, ◌+◌, ◌≤◌, ◌++◌, length, drop}
use Rattle.values.specs.Characters as characters
use Rattle.values.proofs.reading.Reading.read.Given as goal

abbrev pub invariant-loop-byte : goal.invariant-loop-byte
invariant-loop-byte g l = record {
  reading : characters.after_all l.self (drop l.byte-index l.bytes) ≡ characters.after_all l.fn.self l.bytes;
  bound : length l.text.items ≤ length l.fn.text.items + l.byte-index;
  text : length l.fn.text.items + length l.bytes ≤ g.row.N → l.text.items ++ characters.shown l.self (drop l.byte-index l.bytes) ≡ l.fn.text.items ++ characters.shown l.fn.self l.bytes;
}
