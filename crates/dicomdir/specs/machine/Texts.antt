-- The reading of elements in memory: the header at the front of some bytes, the elements in them, and the element
-- with a tag.
use Rattle.std.specs.Prelude.{ℕ, List, length, Option, Some, None, nat_le, if◌then◌else◌, ◌≡◌, ◌≤◌, ◌+◌, Bool, true, false, not, ◌&&◌, [], ◌++◌, take}
use Rattle.sequence.specs.Coding.{layout, is_native}
use Rattle.sequence.specs.declared.coding.Coding.{Coding}
use Rattle.element.specs.declared.size.Need.{Need}
use Rattle.element.specs.declared.size.Need.TheVariants.{More, Size, BadVr}
use Rattle.element.specs.Header.{need, header_at, item_end_tag, sequence_end_tag}
use Rattle.dicomdir.specs.declared.found.Head.{Head}
use Rattle.element.specs.declared.tag.Tag.{Tag}
use Rattle.element.specs.declared.header.Header.{Header}
use Rattle.sequence.specs.Shape.{is_undefined, shape}
use Rattle.sequence.specs.declared.shape.Shape.TheVariants.{Value, Sequence}
use Rattle.sequence.specs.Tree.{Elements, Items, delimitation, IsValue, Ended, DataSet, ItemList}
use Rattle.dicomdir.specs.declared.found.Element.{Element}
use Rattle.dicomdir.specs.Directory.{Found, missing, value_at, items_at, header_size}
use Rattle.dicomdir.specs.declared.found.Element.TheVariants as got

abbrev pub head_by : Coding → List ℕ → Need → Option Head
head_by s b More = None
head_by s b BadVr = None
head_by s b (Size k) = if nat_le k (length b) then Some (record { header = header_at (layout s) b; size = k }) else None

abbrev pub head_at : Coding → List ℕ → Option Head
head_at s b = head_by s b (need (layout s) b)

-- ---- the elements and items at the front of some bytes

-- items that were found end at or before a position
abbrev pub EndsBefore : ℕ → Element → Type 0
EndsBefore end got.Missing = Unit {0}
EndsBefore end (got.Value p v) = Unit {0}
EndsBefore end (got.Items p f s t) = f + length t.now ≤ end

-- the text is the encoding of these elements, whose tags are above `last`, followed by `more`; Pixel Data in them is
-- native
pub record ElementsThen (s : Coding) (last : ℕ) (es : Elements) (more text : List ℕ) : Type 0 where
  pub native : is_native s ≡ true
  pub bytes : List ℕ
  pub data_set : DataSet s last es bytes
  pub whole : text ≡ bytes ++ more

pub record ItemsThen (s : Coding) (is : Items) (more text : List ℕ) : Type 0 where
  pub native : is_native s ≡ true
  pub bytes : List ℕ
  pub items : ItemList s is bytes
  pub whole : text ≡ bytes ++ more

-- no bytes, or the delimitation with this tag and any bytes
pub data IsAfter (mark : Tag) : List ℕ → Type 0 where
  nothing_after : IsAfter mark []
  end_after : (rest : List ℕ) → IsAfter mark (delimitation mark ++ rest)

-- the text is the encoding of these elements, followed by nothing, or by an Item Delimitation and any bytes
pub record HasElements (s : Coding) (es : Elements) (text : List ℕ) : Type 0 where
  pub more : List ℕ
  pub after : IsAfter item_end_tag more
  pub spelled : ElementsThen s 0 es more text

-- the text is the encoding of these items, followed by nothing, or by a Sequence Delimitation and any bytes
pub record HasItems (s : Coding) (is : Items) (text : List ℕ) : Type 0 where
  pub more : List ℕ
  pub after : IsAfter sequence_end_tag more
  pub spelled : ItemsThen s is more text

-- the bytes of an element after its header h, at this position, and the element as it is found
pub data IsContent (s : Coding) (h : Header) (offset : ℕ) : Found → List ℕ → Type 0 where
  of_value : {v : List ℕ} → shape s h ≡ Value → IsValue h.length v → IsContent s h offset (value_at offset v) v
  of_items : {inner : Coding} {is : Items} {b c : List ℕ} → is_native inner ≡ true → shape s h ≡ Sequence inner → ItemList inner is b → Ended sequence_end_tag h.length b c
      → IsContent s h offset (items_at offset h is) c

-- the bytes of an item with these elements, after its header
pub data IsItemContent (s : Coding) (h : Header) (es : Elements) : List ℕ → Type 0 where
  of_elements : {b c : List ℕ} → is_native s ≡ true → DataSet s 0 es b → Ended item_end_tag h.length b c → IsItemContent s h es c

-- the first bytes of a text, as many as the length of the header before it; all if the length is undefined or greater
abbrev pub content_at : Header → List ℕ → List ℕ
content_at h text = if not (is_undefined h.length) && nat_le h.length (length text) then take h.length text else text

pub record FindsItems (p first : ℕ) (s : Coding) (text : List ℕ) (f : Found) : Type 0 where
  pub header : Header
  pub items : Items
  pub is : f ≡ items_at p header items
  pub first_is : first ≡ p + header_size header
  pub text_is : HasItems s items text

-- the result of a search equals the element in the definitions
abbrev pub Finds : Element → Found → Type 0
Finds got.Missing f = f ≡ missing
Finds (got.Value p v) f = f ≡ value_at p v.now
Finds (got.Items p first s t) f = FindsItems p first s t.now f

-- ---- the results of a search

-- the result of a search, where items count as missing: they have no number, no record type and no file ID
abbrev pub shown : Element → Found
shown got.Missing = missing
shown (got.Value p v) = value_at p v.now
shown (got.Items p first s t) = missing

abbrev pub got_value : Element → Option (List ℕ)
got_value got.Missing = None
got_value (got.Value p v) = Some v.now
got_value (got.Items p first s t) = None

abbrev pub got_none : Element → Bool
got_none got.Missing = true
got_none (got.Value p v) = false
got_none (got.Items p first s t) = false
