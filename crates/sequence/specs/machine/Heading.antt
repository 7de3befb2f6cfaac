-- The search for the end of a header in its bytes.
use Rattle.std.specs.Prelude.{◌≡◌, ℕ, ◌-◌, ◌<◌, ◌≤◌, Bool, true, false, not, ◌&&◌, List, [], ◌∷◌, length, take, Some, None, is_none}
use Rattle.element.specs.declared.tag.Tag.{Tag}
use Rattle.element.specs.declared.header.Header.{Header}
use Rattle.sequence.specs.Coding.{layout}
use Rattle.sequence.specs.declared.coding.Coding.{Coding}
use Rattle.element.specs.declared.size.Need.TheVariants.{Size}
use Rattle.element.specs.Header.{is_plain, need, is_whole, header_at}
use Rattle.sequence.specs.declared.level.Scope.{Scope}
use Rattle.sequence.specs.declared.spot.Spot.{Spot}
use Rattle.sequence.specs.declared.shape.Shape.{Shape}
use Rattle.sequence.specs.Shape.{shape}
use Rattle.element.specs.declared.rule.Rule.{Rule}
use Rattle.element.specs.RuleNames.{rule_number}
use Rattle.sequence.specs.declared.reading.Front.{Front}
use Rattle.sequence.specs.declared.heading.End.{End}
use Rattle.sequence.specs.declared.heading.End.TheVariants as ends
use Rattle.sequence.specs.Rules.{Limits, Broken, broken_due, broken_tag, broken_need, broken_header, broken, ◌or_else◌, when}
use Rattle.sequence.specs.machine.Machine.{spot_of}

abbrev pub is_part : End → Bool
is_part (ends.Refused n rule tag) = false
is_part (ends.Whole n h sh) = false
is_part ends.Part = true

abbrev pub is_end : End → Bool
is_end (ends.Refused n rule tag) = false
is_end (ends.Whole n h sh) = true
is_end ends.Part = false

-- the bytes t are an unfinished header, and break no rule
pub record IsQuiet (lim : Limits) (spot : Spot) (t : List ℕ) : Type 0 where
  pub fine : broken lim spot t ≡ None
  pub part : is_whole (layout spot.syntax) t ≡ false

-- the bytes t of a header break this rule
abbrev pub IsRefused : Limits → Spot → List ℕ → Rule → Tag → Type 0
IsRefused lim spot t rule tag = broken lim spot t ≡ Some (rule_number rule, tag)

-- the bytes t are the whole header h, which breaks no rule and is followed by this
pub record IsRead (lim : Limits) (spot : Spot) (t : List ℕ) (h : Header) (sh : Shape) : Type 0 where
  pub fine : broken lim spot t ≡ None
  pub whole : is_whole (layout spot.syntax) t ≡ true
  pub read : h ≡ header_at (layout spot.syntax) t
  pub shaped : sh ≡ shape spot.syntax h

-- n is greater than a, and at most c and 12
pub record IsCount (a n c : ℕ) : Type 0 where
  pub more : a < n
  pub some : n ≤ c
  pub short : n ≤ 12

-- the outcome of the check of the first `count` bytes, if they are there and more than `started`
abbrev pub IsExamined : Limits → Spot → List ℕ → ℕ → ℕ → End → Type 0
IsExamined lim spot bytes started count (ends.Refused n rule tag) = IsCount started n (length bytes) × (n ≡ count) × IsRefused lim spot (take n bytes) rule tag
IsExamined lim spot bytes started count (ends.Whole n h sh) = IsCount started n (length bytes) × (n ≡ count) × IsRead lim spot (take n bytes) h sh
IsExamined lim spot bytes started count ends.Part = started < count → count ≤ length bytes → IsQuiet lim spot (take count bytes)

-- the shortest prefix of the bytes, longer than `started`, that breaks a rule or is a whole header
abbrev pub IsEnd : Limits → Spot → List ℕ → ℕ → End → Type 0
IsEnd lim spot bytes started (ends.Refused n rule tag) = IsCount started n (length bytes) × IsRefused lim spot (take n bytes) rule tag × ((m : ℕ) → started < m → m < n → IsQuiet lim spot (take m bytes))
IsEnd lim spot bytes started (ends.Whole n h sh) = IsCount started n (length bytes) × IsRead lim spot (take n bytes) h sh × ((m : ℕ) → started < m → m < n → IsQuiet lim spot (take m bytes))
IsEnd lim spot bytes started ends.Part = (m : ℕ) → started < m → m ≤ length bytes → IsQuiet lim spot (take m bytes)

-- the bytes of a header that are held afterwards: all of an unfinished one, else none
abbrev pub kept_by : End → List ℕ → List ℕ
kept_by (ends.Refused n rule tag) bytes = []
kept_by (ends.Whole n h sh) bytes = []
kept_by ends.Part bytes = bytes

-- the bytes begin with this whole header
pub record IsFront (s : Coding) (bytes : List ℕ) (front : Front) : Type 0 where
  pub size-is : need (layout s) bytes ≡ Size front.size
  pub within : front.size ≤ length bytes
  pub read : front.header ≡ header_at (layout s) bytes
  pub shaped : front.shape ≡ shape s front.header

-- the rule that the whole header h of `size` bytes breaks, if it breaks one
unfoldable pub broken_whole : Limits → Spot → ℕ → Header → Broken
broken_whole lim spot size h =
    broken_due spot
    or_else broken_tag spot h.tag
    or_else when (not (is_plain (layout spot.syntax) h.tag)) (broken_need spot (Size size) h.tag)
    or_else broken_header lim spot size h

-- the bytes t, which end at position p, are an unfinished header that breaks no rule, or there are none
abbrev pub is_started : Limits → Scope → List Scope → ℕ → List ℕ → Bool
is_started lim f fs p [] = true
is_started lim f fs p (x ∷ t) = is_none (broken lim (spot_of f fs (p - length (x ∷ t))) (x ∷ t)) && not (is_whole (layout f.syntax) (x ∷ t))
