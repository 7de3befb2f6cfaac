use Rattle.std.proofs.Common.{◌≡◌, take}
use Rattle.arguments.proofs.settings.addresses_of.Given as goal

abbrev pub invariant-loop-text : goal.invariant-loop-text
invariant-loop-text l = l.addresses.items ≡ take l.text-index l.texts
