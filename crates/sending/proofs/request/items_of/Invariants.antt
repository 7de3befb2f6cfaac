use Rattle.std.proofs.Common.{◌≡◌, ◌++◌, drop}
use Rattle.std.specs.List.{flat_map}
use Rattle.sending.specs.Requesting.{proposal_text}
use Rattle.sending.proofs.request.items_of.Given as goal

abbrev pub invariant-loop-context : goal.invariant-loop-context
invariant-loop-context g l = l.items.items ++ flat_map proposal_text (drop l.context-index l.contexts) ≡ l.initial.items.items ++ flat_map proposal_text l.contexts
