-- When the bytes of a text are a whole data set, and what is wrong with them if not (this product's own profile).
use Rattle.std.specs.Prelude.{ℕ, List, ◌++◌, length}
use Rattle.element.specs.Numbers.{IsBytes}
use Rattle.sequence.specs.declared.coding.Coding.{Coding}
use Rattle.element.specs.declared.tag.Tag.{Tag}
use Rattle.sequence.specs.declared.fault.Fault.{Fault}
use Rattle.sequence.specs.Tree.{Elements, DataSet}
use Rattle.sequence.specs.Within.{Within}
use Rattle.sequence.specs.Rules.{Limits, truncated}
use Rattle.sequence.specs.FirstFault.{IsUnbroken, FirstFault, EndFault}

-- b is a whole data set within the limits
pub record IsWholeDataSet (s : Coding) (lim : Limits) (b : List ℕ) : Type 0 where
  pub elements : Elements
  pub text : DataSet s 0 elements b
  pub within : Within s lim elements b

-- the fault of b: the first rule that it breaks, or that it ends before the data set is whole
pub data Fails (s : Coding) (lim : Limits) (b : List ℕ) : Fault → Type 0 where
  breaks_rule : {p u : List ℕ} {rule : ℕ} {tag : Tag} → FirstFault s lim b p u rule tag → Fails s lim b (record { number = rule; offset = length p; tag = tag })
  ends_early : {tag : Tag} → EndFault s lim b tag → Fails s lim b (record { number = truncated; offset = length b; tag = tag })

-- a whole data set within the limits breaks no rule
abbrev pub WholeBreaksNoRule : Type 0
WholeBreaksNoRule = (s : Coding) (lim : Limits) (b : List ℕ) → IsWholeDataSet s lim b → IsUnbroken s lim b

-- a whole data set within the limits has no fault
abbrev pub WholeHasNoFault : Type 0
WholeHasNoFault = (s : Coding) (lim : Limits) (b : List ℕ) (fault : Fault) → IsWholeDataSet s lim b → Fails s lim b fault → ⊥

-- b has a fault only if no text that extends b is a whole data set within the limits
abbrev pub FaultIsFinal : Type 0
FaultIsFinal = (s : Coding) (lim : Limits) (b more p u : List ℕ) (rule : ℕ) (tag : Tag) → IsBytes (b ++ more) → FirstFault s lim b p u rule tag → IsWholeDataSet s lim (b ++ more) → ⊥
