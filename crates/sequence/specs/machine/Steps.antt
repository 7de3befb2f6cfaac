-- Which bytes of a header a step consumes, and the kept values after bytes of a value.
use Rattle.std.specs.Prelude.{◌≡◌, ℕ, ◌+◌, ◌<◌, true, List, [], ◌∷◌, ◌++◌, length, take, Option, Some, None}
use Rattle.sequence.specs.Coding.{layout}
use Rattle.sequence.specs.declared.coding.Coding.{Coding}
use Rattle.element.specs.declared.header.Header.{Header}
use Rattle.element.specs.Header.{is_whole, header_at}
use Rattle.sequence.specs.declared.stage.Stage.{Stage}
use Rattle.sequence.specs.declared.stage.Stage.TheVariants as stages
use Rattle.sequence.specs.Open.{IsUnfinishedHeader}
use Rattle.sequence.specs.Wanted.{Values}
use Rattle.sequence.specs.machine.Keeping.{with_byte}

-- the values with these further bytes of the last one
abbrev pub with_bytes : Values → List ℕ → Values
with_bytes values [] = values
with_bytes values (x ∷ xs) = with_bytes (with_byte values x) xs

-- t is the beginning of the header h in encoding s, and the bytes `consumed` are the rest of it
pub record IsMade (s : Coding) (t consumed : List ℕ) (h : Header) : Type 0 where
  pub front : List ℕ
  pub byte : ℕ
  pub text : consumed ≡ front ++ byte ∷ []
  pub part : IsUnfinishedHeader s (t ++ front)
  pub whole : is_whole (layout s) (t ++ consumed) ≡ true
  pub read : header_at (layout s) (t ++ consumed) ≡ h

-- after t, the beginning of a header in encoding s that ends at this position, n bytes of the piece are consumed: those
-- up to a fault or the end of the header, else the whole piece
abbrev pub IsConsumed : Coding → List ℕ → List ℕ → ℕ → ℕ → Stage → List ℕ → Option Header → Type 0
IsConsumed s t piece offset n (stages.Stopped fault) header (Some h) = IsMade s t (take n piece) h × (fault.offset ≡ offset + n)
IsConsumed s t piece offset n (stages.Stopped fault) header None = (fault.offset + length t ≡ offset) × (0 < n)
IsConsumed s t piece offset n stages.Heading header (Some h) = IsMade s t (take n piece) h × (header ≡ [])
IsConsumed s t piece offset n (stages.Value tag remaining kept) header (Some h) = IsMade s t (take n piece) h
IsConsumed s t piece offset n stages.Heading header None = (n ≡ length piece) × (header ≡ t ++ piece) × IsUnfinishedHeader s (t ++ piece)
IsConsumed s t piece offset n (stages.Value tag remaining kept) header None = ⊥
