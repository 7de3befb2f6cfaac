use Rattle.std.proofs.Common.{◌≡◌, take, map}
use Rattle.negotiate.proofs.config.texts_of.Given as goal

abbrev pub invariant-loop-uid : goal.invariant-loop-uid
invariant-loop-uid l = map (λ t. t.items) l.texts.items ≡ take l.uid-index l.uids
