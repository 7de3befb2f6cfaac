use Rattle.std.proofs.Common.{◌≡◌, drop, map}
use Rattle.sequence.specs.Wanted.{value_of}
use Rattle.dicomdir_writing.specs.Keys.{entry_value, key_values}
use Rattle.dicomdir_writing.proofs.keys.Keys.value.Given as goal

abbrev pub invariant-loop-entry : goal.invariant-loop-entry
invariant-loop-entry g l = value_of (map entry_value (drop l.entry-index l.entry-items)) l.number ≡ value_of (key_values l.self) l.number
