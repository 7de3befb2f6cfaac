use Rattle.std.proofs.Common.{◌≡◌, length}
use Rattle.commands.proofs.options.conditions_of.Given as goal

abbrev pub invariant-loop-text : goal.invariant-loop-text
invariant-loop-text l = length l.conditions.items ≡ l.text-index
