-- How many bytes of a piece a step consumes.
use Rattle.std.specs.Prelude.{◌≡◌, ℕ, ◌-◌, ◌<◌, List, ◌++◌, length, min, take}
use Rattle.sequence.specs.Coding.{layout}
use Rattle.sequence.specs.declared.coding.Coding.{Coding}
use Rattle.element.specs.declared.tag.Tag.{Tag}
use Rattle.element.specs.declared.header.Header.{Header}
use Rattle.element.specs.Header.{SpellsHeader}
use Rattle.sequence.specs.Tree.{Elements}
use Rattle.sequence.specs.Open.{PathEntry, in_header, in_value, Open}
use Rattle.sequence.specs.Rules.{Limits}
use Rattle.sequence.specs.FirstFault.{spot_behind, IsUnbroken, FirstFault}

-- after the text b, no front of which breaks a rule, a step consumes n bytes of the piece: as many as possible
pub record ConsumesMost (s : Coding) (lim : Limits) (b piece : List ℕ) (n : ℕ) : Type 0 where
  -- of a header that ends in the piece and breaks no rule, all bytes
  pub header : (es : Elements) (path : List PathEntry) (last : ℕ) (started bytes more : List ℕ) (h : Header)
      → Open s b es path last (in_header started) → piece ≡ bytes ++ more → SpellsHeader (layout (spot_behind s path last (length b)).syntax) h (started ++ bytes)
      → IsUnbroken s lim (b ++ take n piece) → n ≡ length bytes
  -- of a value, all bytes that the piece has of it
  pub value : (es : Elements) (path : List PathEntry) (last : ℕ) (h : Header) (v : List ℕ) → Open s b es path last (in_value h v) → n ≡ min (length piece) (h.length - length v)
  -- of a header that does not end in the piece, the whole piece
  pub part : (es : Elements) (path : List PathEntry) (last : ℕ) (started : List ℕ)
      → Open s (b ++ take n piece) es path last (in_header started) → 0 < length started → IsUnbroken s lim (b ++ take n piece) → n ≡ length piece
  -- of bytes that break a rule, none after the shortest front that breaks it
  pub refusal : (p u : List ℕ) (rule : ℕ) (tag : Tag) → FirstFault s lim (b ++ take n piece) p u rule tag → b ++ take n piece ≡ p ++ u
