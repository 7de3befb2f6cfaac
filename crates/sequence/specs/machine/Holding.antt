-- The fields of a walker, from the front of the data set that it has read.
use Rattle.std.specs.Prelude.{◌≡◌, ℕ, ◌+◌, List, [], ◌∷◌, length}
use Rattle.sequence.specs.declared.stage.Stage.{Stage}
use Rattle.sequence.specs.declared.stage.Stage.TheVariants as stages
use Rattle.sequence.specs.declared.walker.Walker.{Walker}
use Rattle.sequence.specs.Tree.{Elements}
use Rattle.sequence.specs.Open.{PathEntry, Tail, in_header, in_value}
use Rattle.sequence.specs.Stored.{wants_of, values_of}
use Rattle.sequence.specs.Consumed.{walker_syntax}
use Rattle.sequence.specs.Holding.{levels_at, with_started, values_at}
use Rattle.sequence.specs.machine.Scopes.{top_of, below_of}

-- the walker is in this unfinished header, of which it holds these bytes, or in this unfinished value
abbrev pub IsIn : Stage → List ℕ → Tail → Type 0
IsIn stages.Heading header tail = tail ≡ in_header header
IsIn (stages.Value tag remaining kept) header (in_header t) = ⊥
IsIn (stages.Value tag remaining kept) header (in_value h v) = (tag ≡ h.tag) × (length v + remaining ≡ h.length)
IsIn (stages.Stopped fault) header tail = ⊥

-- the levels and the kept values are those of a front of `offset` bytes with these elements, path and tail
pub record HoldsFront {V D : ℕ} (w : Walker V D) (offset : ℕ) (es : Elements) (path : List PathEntry) (last : ℕ) (tail : Tail) : Type 0 where
  pub levels : top_of w.root w.levels.items ∷ below_of w.root [] w.levels.items ≡ with_started tail (levels_at offset path (walker_syntax w) last)
  pub values : values_of w.kept ≡ values_at (wants_of w.kept) es path tail
