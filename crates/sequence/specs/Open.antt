-- The front of a data set: its whole elements, and the open sequences and items after them (PS3.5 sections 7.5 and
-- A.4).
use Rattle.std.specs.Prelude.{◌≡◌, ℕ, ◌-◌, ◌<◌, ◌≤◌, ◌≢◌, is_some, Bool, true, false, List, [], ◌∷◌, ◌++◌, length, Option, Some, None, if◌then◌else◌}
use Rattle.sequence.specs.Coding.{layout}
use Rattle.sequence.specs.declared.coding.Coding.{Coding}
use Rattle.element.specs.declared.header.Header.{Header}
use Rattle.element.specs.declared.size.Need.TheVariants.{BadVr}
use Rattle.element.specs.Header.{number, need, is_whole}
use Rattle.sequence.specs.Shape.{is_undefined, undefined_length, shape}
use Rattle.sequence.specs.declared.shape.Shape.TheVariants.{Value, Sequence}
use Rattle.sequence.specs.Tree.{Elements, no_elements, value, sequence, Items, IsElement, IsItem, IsFragmentItem, DataSet, ItemList}

-- the tag of the last element, and `last` where there is none
-- e.g. last_of 7 no_elements ≡ 7
abbrev pub last_of : ℕ → Elements → ℕ
last_of last no_elements = last
last_of last (value h v es) = last_of (number h.tag) es
last_of last (sequence h is es) = last_of (number h.tag) es

-- a level: an open sequence, encapsulated Pixel Data, or an open item
pub record PathEntry : Type 0 where
  pub in_sequence : Bool
  -- the encoding of its items or elements
  pub syntax : Coding
  -- how many bytes of its defined length remain; none for undefined length
  pub remaining : Option ℕ
  -- of an item, the tag of its last element, as a number
  pub last : ℕ

-- how many bytes of this length remain after so many; none for undefined length
-- e.g. remaining_of 10 4 ≡ Some 6; remaining_of 0xffffffff 4 ≡ None
abbrev pub remaining_of : ℕ → ℕ → Option ℕ
remaining_of n received = if is_undefined n then None else Some (n - received)

-- the entry of an open sequence in the path, from the encoding of its items, its length, and how many bytes of it are
-- there
-- e.g. (sequence_entry Explicit 10 4).remaining ≡ Some 6
abbrev pub sequence_entry : Coding → ℕ → ℕ → PathEntry
sequence_entry s n received = record { in_sequence = true; syntax = s; remaining = remaining_of n received; last = 0 }

-- the entry of an open item in the path, from its encoding, its length, how many bytes of it are there, and its last
-- tag
-- e.g. (item_entry Explicit 0xffffffff 4 7).remaining ≡ None
abbrev pub item_entry : Coding → ℕ → ℕ → ℕ → PathEntry
item_entry s n received last = record { in_sequence = false; syntax = s; remaining = remaining_of n received; last = last }

-- the end of a front, after its whole elements and items
pub data Tail : Type 0 where
  in_header : List ℕ → Tail
  -- nothing, or the first bytes of a header
  -- the header of a value or a fragment, and the first bytes of it
  in_value : Header → List ℕ → Tail

-- t is nothing, or the first bytes of a header
pub record IsUnfinishedHeader (s : Coding) (t : List ℕ) : Type 0 where
  pub part : is_whole (layout s) t ≡ false
  pub good : need (layout s) t ≢ BadVr

-- the bytes t are this tail, at a position where an element with a tag above `last` may follow
pub data IsTail (s : Coding) (last : ℕ) : Tail → List ℕ → Type 0 where
  header_tail : {t : List ℕ} → IsUnfinishedHeader s t → IsTail s last (in_header t) t
  value_tail : {h : Header} {hb : List ℕ} (v : List ℕ) → IsElement s last h hb → shape s h ≡ Value → length v < h.length → IsTail s last (in_value h v) (hb ++ v)

-- the bytes t are this tail, at a position where an item or a fragment follows
pub data IsItemTail (s : Coding) : Tail → List ℕ → Type 0 where
  header_of_item : {t : List ℕ} → IsUnfinishedHeader s t → IsItemTail s (in_header t) t
  value_of_fragment : {h : Header} {hb : List ℕ} (v : List ℕ) → IsFragmentItem s h hb → length v < h.length → IsItemTail s (in_value h v) (hb ++ v)

-- a level of length n is open when `received` bytes after its header are there: n is not 0, and not below `received`
pub record IsOpenLevel (n received : ℕ) : Type 0 where
  pub some : n ≢ 0
  pub within : n ≢ undefined_length → received ≤ n

-- a sequence that is open in a data set of encoding s: whole elements, the header of the sequence, and its whole
-- items
pub record OpenSequence (s : Coding) : Type 0 where
  pub elements : Elements
  -- the bytes of these elements
  pub before : List ℕ
  pub header : Header
  pub spelling : List ℕ
  -- the encoding of the items
  pub inner : Coding
  pub items : Items
  pub item_bytes : List ℕ
  pub elements-are : DataSet s 0 elements before
  pub header-is : IsElement s (last_of 0 elements) header spelling
  pub shaped : shape s header ≡ Sequence inner
  pub items-are : ItemList inner items item_bytes

-- the bytes of the sequence after its header: its whole items and the bytes t
abbrev pub received_of : {s : Coding} → OpenSequence s → List ℕ → List ℕ
received_of q t = q.item_bytes ++ t

-- the bytes of the data set up to the end of the bytes t, which follow the whole items of the sequence
abbrev pub text_of : {s : Coding} → OpenSequence s → List ℕ → List ℕ
text_of q t = q.before ++ (q.spelling ++ received_of q t)

-- the entry of an open sequence in the path: its encoding, and how many bytes it still lacks
abbrev pub entry_of : {s : Coding} → OpenSequence s → List ℕ → PathEntry
entry_of q t = sequence_entry q.inner q.header.length (length (received_of q t))

-- the bytes b are the whole elements es and what is open after them: the path (the open levels, the innermost first),
-- the tag of the last element of b itself, and the tail
pub data Nested : Coding → List ℕ → Elements → List PathEntry → ℕ → Tail → Type 0 where
  at_elements : {s : Coding} {es : Elements} {b t : List ℕ} {tail : Tail}
      → DataSet s 0 es b → IsTail s (last_of 0 es) tail t
      → Nested s (b ++ t) es [] (last_of 0 es) tail
  -- after the whole items of a sequence: nothing, the first bytes of a header, or an unfinished fragment
  in_sequence_of : {s : Coding} (q : OpenSequence s) {t : List ℕ} {tail : Tail}
      → IsOpenLevel q.header.length (length (received_of q t)) → IsItemTail q.inner tail t
      → Nested s (text_of q t) q.elements (entry_of q t ∷ []) (number q.header.tag) tail
  -- after the whole items of a sequence: the header k of an item, and the front b2 of its data set
  in_item_of : {s : Coding} (q : OpenSequence s) {k : Header} {kb b2 : List ℕ} {es : Elements} {path : List PathEntry} {last : ℕ} {tail : Tail}
      → IsOpenLevel q.header.length (length (received_of q (kb ++ b2))) → IsItem q.inner k kb → IsOpenLevel k.length (length b2) → Nested q.inner b2 es path last tail
      → Nested s (text_of q (kb ++ b2)) q.elements (path ++ (item_entry q.inner k.length (length b2) last ∷ entry_of q (kb ++ b2) ∷ [])) (number q.header.tag) tail

-- a level of defined length lacks at least as many bytes as one inside it
abbrev pub IsRemaining : Option ℕ → Option ℕ → Type 0
IsRemaining None inside = Unit {0}
IsRemaining (Some remaining) None = Unit {0}
IsRemaining (Some remaining) (Some n) = n ≤ remaining

-- each level of defined length in a path lacks at least as many bytes as those inside it; `near` is what the level
-- inside the first one lacks
abbrev pub AreRemaining : Option ℕ → List PathEntry → Type 0
AreRemaining near [] = Unit {0}
AreRemaining near (e ∷ path) = IsRemaining e.remaining near × AreRemaining (if is_some e.remaining then e.remaining else near) path

-- the innermost level, if it has defined length, lacks at least one byte
abbrev pub IsInnermost : List PathEntry → Type 0
IsInnermost [] = Unit {0}
IsInnermost (e ∷ path) = e.remaining ≢ Some 0

-- The bytes b are the front of a data set: its whole elements, the path (the open levels, the innermost first), the
-- last tag and the tail. A level of defined length lacks at least one byte, unless a level of undefined length is open
-- inside it (law `sequence::two_open_levels`).
pub record Open (s : Coding) (b : List ℕ) (es : Elements) (path : List PathEntry) (last : ℕ) (tail : Tail) : Type 0 where
  pub nested : Nested s b es path last tail
  pub remaining : AreRemaining None path
  pub innermost : IsInnermost path
