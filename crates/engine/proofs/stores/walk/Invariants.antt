use Rattle.std.proofs.Common.{ℕ, List, length}
use Rattle.sequence.specs.declared.coding.Coding.{Coding}
use Rattle.sequence.specs.Rules.{Limits}
use Rattle.engine.specs.StoredData.{HasWalked}
use Rattle.engine.proofs.StoresAreKept.PartsAreWalked.{Walked}
use Rattle.engine.proofs.stores.walk.Given as goal

abbrev pub invariant-loop-rest : goal.invariant-loop-rest
invariant-loop-rest g l = (syntax : Coding) (lim : Limits) (set : List ℕ) → HasWalked l.fn.walker syntax lim set → Walked l.walker syntax lim set l.part l.rest

abbrev pub decreases-loop-rest : goal.decreases-loop-rest
decreases-loop-rest g l = length l.rest
