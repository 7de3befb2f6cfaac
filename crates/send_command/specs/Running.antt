-- What `send` does in an association. This product's own profile.
use Rattle.std.specs.Prelude.{ℕ, List}
use Rattle.sending.specs.Handing.{HandState, RemovesOnlyAnswered}

-- A file at a path was handed over in the presentation context with an index, or left out: it lost its name there only as
-- the archive filed what was read of it, or refused it for good.
pub record HandsOver (old new : HandState) : Type 0 where
  pub path : List ℕ
  pub file : List ℕ
  pub index : ℕ
  pub removes : RemovesOnlyAnswered path file index old new

-- files were handed over or left out, one after the other
pub data HandsAll : HandState → HandState → Type 0 where
  none : {state : HandState} → HandsAll state state
  next : {old state new : HandState} → HandsAll old state → HandsOver state new → HandsAll old new
