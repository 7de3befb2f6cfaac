use Rattle.std.proofs.Common.{◌≡◌, ◌≤◌, ◌+◌, ◌++◌, length, map, drop}
use Rattle.element.specs.Padding.{is_padding, without_trailing}
use Rattle.arrange_command.specs.Names.{kept_or_blank, named}
use Rattle.arrange_command.proofs.name.name_of.Given as goal

abbrev pub invariant-loop-byte : goal.invariant-loop-byte
invariant-loop-byte l = (l.name.items ++ map kept_or_blank (drop l.byte-index l.rest) ≡ named (without_trailing is_padding l.value))
    × (length l.name.items ≡ l.byte-index + 1)
    × (length l.rest + 1 ≤ 230)
