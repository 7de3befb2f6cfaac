-- The tags so far.
use Rattle.std.proofs.Common.{◌≡◌, [], take}
use Rattle.list_command.specs.Values.{tags_to_read}
use Rattle.list_command.proofs.conditions.tags_of.Given as goal

abbrev pub invariant-loop-condition : goal.invariant-loop-condition
invariant-loop-condition g l = l.tags.items ≡ tags_to_read l.listed (take l.condition-index l.conditions) []

abbrev pub invariant-loop-column : goal.invariant-loop-column
invariant-loop-column g l = l.tags.items ≡ tags_to_read l.listed l.conditions (take l.column-index l.columns)
