-- The state of a walker as a function of the bytes that it has read (this product's own profile).
use Rattle.std.specs.Prelude.{ℕ, ◌+◌, ◌-◌, false, List, [], ◌∷◌, ◌++◌, length, Option, Some, None, if◌then◌else◌}
use Rattle.sequence.specs.declared.coding.Coding.{Coding}
use Rattle.element.specs.declared.tag.Tag.{Tag}
use Rattle.element.specs.declared.header.Header.{Header}
use Rattle.element.specs.Header.{number, is_marker}
use Rattle.sequence.specs.declared.level.Scope.{Scope}
use Rattle.sequence.specs.declared.wanted.Want.{Want}
use Rattle.sequence.specs.Tree.{Elements}
use Rattle.sequence.specs.Open.{PathEntry, Tail, in_header, in_value, Open}
use Rattle.sequence.specs.Wanted.{Values, is_wanted, kept_of}
use Rattle.sequence.specs.Rules.{Limits}
use Rattle.sequence.specs.FirstFault.{IsUnbroken, FirstFault}

-- the position of the end of a level that still lacks so many bytes after n; none where its length is undefined
abbrev pub stop_at : ℕ → Option ℕ → Option ℕ
stop_at n None = None
stop_at n (Some remaining) = Some (n + remaining)

-- the level of a path entry after n bytes: it has the position of its end instead of the number of bytes that it
-- lacks
abbrev pub scope_at : ℕ → PathEntry → Scope
scope_at n e = record { in_sequence = e.in_sequence; syntax = e.syntax; stop = stop_at n e.remaining; last = e.last }

-- the levels of a path, the innermost first, and after them the data set itself, which has no end
abbrev pub levels_at : ℕ → List PathEntry → Coding → ℕ → List Scope
levels_at n [] s last = record { in_sequence = false; syntax = s; stop = None; last = last } ∷ []
levels_at n (e ∷ path) s last = scope_at n e ∷ levels_at n path s last

-- the level with the tag of this header as its last one, if it is that of an element; a fragment has no tag of its
-- own
abbrev pub started_in : Scope → Header → Scope
started_in f h = if is_marker h.tag then f else record f { last = number h.tag }

-- the levels, with the tag of the unfinished value as the last one of the innermost level
abbrev pub with_started : Tail → List Scope → List Scope
with_started (in_header t) levels = levels
with_started (in_value h v) [] = []
with_started (in_value h v) (f ∷ levels) = started_in f h ∷ levels

-- the unfinished header or value
pub data Pending : Type 0 where
  -- a header, with the bytes of it that were read
  header_started : List ℕ → Pending
  -- the value of this tag, of which so many bytes are still to be read
  value_due : Tag → ℕ → Pending

abbrev pub pending_of : Tail → Pending
pending_of (in_header t) = header_started t
pending_of (in_value h v) = value_due h.tag (h.length - length v)

-- the wanted values of the data set itself, the last one possibly unfinished
abbrev pub values_at : List Want → Elements → List PathEntry → Tail → Values
values_at ws es path (in_header t) = kept_of ws es
values_at ws es [] (in_value h v) = if is_wanted ws (number h.tag) then kept_of ws es ++ (number h.tag, v) ∷ [] else kept_of ws es
values_at ws es (e ∷ path) (in_value h v) = kept_of ws es

pub record Holding : Type 0 where
  -- the open levels, the innermost first, and after them the data set itself: where each ends, and its last tag
  pub levels : List Scope
  pub pending : Pending
  pub values : Values

-- the state after a front of n bytes
abbrev pub holding_of : Coding → List Want → ℕ → Elements → List PathEntry → ℕ → Tail → Holding
holding_of s ws n es path last tail = record { levels = with_started tail (levels_at n path s last); pending = pending_of tail; values = values_at ws es path tail }

-- the state of a walker that has read the bytes b
pub data Holds (s : Coding) (lim : Limits) (b : List ℕ) : Holding → Type 0 where
  -- b breaks no rule: the state after b
  of_all : {es : Elements} {path : List PathEntry} {last : ℕ} {tail : Tail}
      → IsUnbroken s lim b → Open s b es path last tail
      → Holds s lim b (holding_of s lim.wanted (length b) es path last tail)
  -- p ++ u is the shortest front of b that breaks a rule: the state after p, before the faulty header u
  before_fault : {p u : List ℕ} {rule : ℕ} {tag : Tag} {es : Elements} {path : List PathEntry} {last : ℕ}
      → FirstFault s lim b p u rule tag → Open s p es path last (in_header [])
      → Holds s lim b (holding_of s lim.wanted (length p) es path last (in_header []))
