-- The effect of walking a piece of a data set.
use Rattle.std.specs.Prelude.{◌≡◌, List, ℕ, ◌++◌, None}
use Rattle.element.specs.Numbers.{IsBytes}
use Rattle.sequence.specs.declared.fault.Fault.{Fault}
use Rattle.sequence.specs.declared.walker.Walker.{Walker}
use Rattle.sequence.specs.Ending.{Fails}
use Rattle.sequence.specs.Consumed.{StandsAt, walker_syntax, limits_of, fault_of}

-- the walker has read some bytes and found no fault
abbrev pub IsGoing : {V D : ℕ} → Walker V D → Type 0
IsGoing w = (b : List ℕ) × StandsAt w b × (fault_of w ≡ None)

-- the walker is of the same data set
abbrev pub IsSameSet : {V D : ℕ} → Walker V D → Walker V D → Type 0
IsSameSet w v = (walker_syntax v ≡ walker_syntax w) × (limits_of v ≡ limits_of w)

-- the bytes that the walker has read and this piece have this fault, whatever bytes follow
abbrev pub FailsIn : {V D : ℕ} → Walker V D → List ℕ → Fault → Type 0
FailsIn w piece fault =
    (b more : List ℕ) → StandsAt w b → IsBytes ((b ++ piece) ++ more) → Fails (walker_syntax w) (limits_of w) ((b ++ piece) ++ more) fault
