-- The tags are those of the parts so far.
use Rattle.std.proofs.Common.{◌≡◌, take}
use Rattle.std.specs.List.{flat_map}
use Rattle.arrange_command.specs.Patterns.{tags_in}
use Rattle.arrange_command.proofs.pattern.tags_of.Given as goal

abbrev pub invariant-loop-part : goal.invariant-loop-part
invariant-loop-part g l = l.tags.items ≡ flat_map tags_in (take l.part-index l.pattern)
