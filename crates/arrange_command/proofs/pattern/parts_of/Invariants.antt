-- The parts so far and the rest are the pattern.
use Rattle.std.proofs.Common.{◌≡◌, ◌≤◌, ◌+◌, ◌++◌, All, length}
use Rattle.std.specs.List.{flat_map}
use Rattle.arrange_command.specs.Patterns.{IsPart, spelled}
use Rattle.arrange_command.proofs.pattern.parts_of.Given as goal

abbrev pub invariant-loop-consumed : goal.invariant-loop-consumed
invariant-loop-consumed l = (flat_map spelled l.parts.items ++ l.rest ≡ l.pattern)
    × All IsPart l.parts.items
    × (length l.rest + l.consumed ≤ length l.pattern)
