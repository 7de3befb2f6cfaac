use Rattle.std.proofs.Common.{◌≡◌, drop}
use Rattle.keyed_files.specs.Keys.{file_value, value_among}
use Rattle.keyed_files.proofs.keys.FileKeys.value.Given as goal

abbrev pub invariant-loop-number : goal.invariant-loop-number
invariant-loop-number l = value_among (drop l.number l.starts) l.self.bytes.items l.tag ≡ file_value l.self l.tag
