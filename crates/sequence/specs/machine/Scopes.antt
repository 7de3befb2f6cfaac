-- The levels of a walker, whose list has the innermost last, as scopes.
use Rattle.std.specs.Prelude.{◌≡◌, ℕ, List, [], ◌∷◌, Option, None}
use Rattle.sequence.specs.declared.level.Scope.{Scope}
use Rattle.sequence.specs.declared.level.Level.{Level}
use Rattle.sequence.specs.Fields.{scope_of}
use Rattle.sequence.specs.machine.Machine.{nearer, arrive, due}

-- the scope of the innermost level, or of the data set itself (`root`)
abbrev pub top_of : Scope → List Level → Scope
top_of root [] = root
top_of root (l ∷ ls) = top_of (scope_of l) ls

-- the scopes around it, the innermost first
abbrev pub below_of : Scope → List Scope → List Level → List Scope
below_of root round [] = round
below_of root round (l ∷ ls) = below_of (scope_of l) (root ∷ round) ls

-- the end of the innermost level of defined length, or `near` if these levels have none
abbrev pub nearest_from : Option ℕ → List Level → Option ℕ
nearest_from near [] = near
nearest_from near (l ∷ ls) = nearest_from (nearer (scope_of l).stop near) ls

-- the new levels are the old ones without those that end at this position
abbrev pub LeavesEnded : ℕ → List Level → List Level → Type 0
LeavesEnded offset old new = (root : Scope) → root.stop ≡ None
    → arrive offset (top_of root old) (below_of root [] old) ≡ due (top_of root new) (below_of root [] new) offset
