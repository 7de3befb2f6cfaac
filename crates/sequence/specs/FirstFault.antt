-- The first rule that a text breaks (this product's own profile).
use Rattle.std.specs.Prelude.{◌≡◌, ℕ, ◌≤◌, false, List, [], ◌∷◌, ◌++◌, length, Option, Some, None, is_some, is_none, nat_le, if◌then◌else◌}
use Rattle.sequence.specs.Coding.{layout}
use Rattle.sequence.specs.declared.coding.Coding.{Coding}
use Rattle.element.specs.declared.tag.Tag.{Tag}
use Rattle.element.specs.Header.{tag_at, is_whole}
use Rattle.sequence.specs.declared.spot.Spot.{Spot}
use Rattle.sequence.specs.Tree.{Elements, DataSet}
use Rattle.sequence.specs.Open.{PathEntry, Tail, in_header, in_value, Open}
use Rattle.sequence.specs.Rules.{Limits, broken, no_tag}

-- the number of bytes that remain in the innermost level of defined length; none where there is no such level
-- e.g. near_of [] ≡ None
abbrev pub near_of : List PathEntry → Option ℕ
near_of [] = None
near_of (e ∷ path) = if is_some e.remaining then e.remaining else near_of path

-- the context of a header that follows a text of `offset` bytes with these open levels and last tag
abbrev pub spot_behind : Coding → List PathEntry → ℕ → ℕ → Spot
spot_behind s [] last offset = record { syntax = s; in_sequence = false; open_ended = false; near = None; last = last; depth = 0; offset = offset }
spot_behind s (e ∷ path) last offset = record {
  syntax = e.syntax;
  in_sequence = e.in_sequence;
  open_ended = is_none e.remaining;
  near = near_of (e ∷ path);
  last = e.last;
  depth = length (e ∷ path);
  offset = offset;
}

-- a header follows the text p, and its first bytes u break this rule
pub record Breaks (s : Coding) (lim : Limits) (p u : List ℕ) (rule : ℕ) (tag : Tag) : Type 0 where
  pub elements : Elements
  pub path : List PathEntry
  pub last : ℕ
  pub due : Open s p elements path last (in_header [])
  -- u is not longer than one header
  pub one_header : (w : List ℕ) (x : ℕ) (z : List ℕ) → u ≡ w ++ x ∷ z → is_whole (layout (spot_behind s path last (length p)).syntax) w ≡ false
  pub breaks : broken lim (spot_behind s path last (length p)) u ≡ Some (rule, tag)

-- no front of the text b breaks a rule
abbrev pub IsUnbroken : Coding → Limits → List ℕ → Type 0
IsUnbroken s lim b = (q v more : List ℕ) (n : ℕ) (t : Tag) → b ≡ (q ++ v) ++ more → Breaks s lim q v n t → ⊥

-- p is no longer than q, and p ++ u no longer than q ++ v
pub record IsNoLater (p u q v : List ℕ) : Type 0 where
  pub offset : length p ≤ length q
  pub end : length (p ++ u) ≤ length (q ++ v)

-- of the fronts of b that break a rule, p ++ u is the shortest; u are the bytes of the header that breaks it
pub record FirstFault (s : Coding) (lim : Limits) (b p u : List ℕ) (rule : ℕ) (tag : Tag) : Type 0 where
  pub rest : List ℕ
  pub text : b ≡ (p ++ u) ++ rest
  pub breaks : Breaks s lim p u rule tag
  pub first : (q v more : List ℕ) (n : ℕ) (t : Tag) → b ≡ (q ++ v) ++ more → Breaks s lim q v n t → IsNoLater p u q v

-- the tag of the unfinished value, or of the unfinished header if at least four of its bytes are there
-- e.g. tag_of_tail (in_header (8 ∷ 0 ∷ 22 ∷ 0 ∷ 85 ∷ [])) ≡ record { 0 = 8; 1 = 22 }
-- e.g. tag_of_tail (in_header (8 ∷ 0 ∷ [])) ≡ no_tag
abbrev pub tag_of_tail : Tail → Tag
tag_of_tail (in_header t) = if nat_le 4 (length t) then tag_at t else no_tag
tag_of_tail (in_value h v) = h.tag

-- b breaks no rule, and is not a whole data set: `Truncated` (20)
pub record EndFault (s : Coding) (lim : Limits) (b : List ℕ) (tag : Tag) : Type 0 where
  pub unbroken : IsUnbroken s lim b
  pub elements : Elements
  pub path : List PathEntry
  pub last : ℕ
  pub tail : Tail
  pub front : Open s b elements path last tail
  pub unfinished : (es : Elements) → DataSet s 0 es b → ⊥
  pub tagged : tag ≡ tag_of_tail tail
