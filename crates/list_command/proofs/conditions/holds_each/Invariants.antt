-- The file meets the conditions so far.
use Rattle.std.proofs.Common.{◌≡◌, true, take}
use Rattle.std.specs.List.{list_all}
use Rattle.list_command.specs.Values.{meets}
use Rattle.list_command.proofs.conditions.holds_each.Given as goal

abbrev pub invariant-loop-condition : goal.invariant-loop-condition
invariant-loop-condition l = list_all (meets l.keys) (take l.condition-index l.conditions) ≡ true
