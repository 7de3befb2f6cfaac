-- Data sets as trees, and which bytes are the encoding of which data set (PS3.5 sections 7.1 to 7.5 and A.4).
use Rattle.std.specs.Prelude.{◌≡◌, ℕ, ◌%◌, ◌<◌, ◌≢◌, true, false, List, [], ◌++◌, length}
use Rattle.sequence.specs.Coding.{layout, has_fragments}
use Rattle.sequence.specs.declared.coding.Coding.{Coding}
use Rattle.element.specs.declared.tag.Tag.{Tag}
use Rattle.element.specs.declared.header.Header.{Header}
use Rattle.element.specs.Numbers.{le}
use Rattle.element.specs.Header.{number, is_marker, tag_bytes, SpellsHeader, item_tag, item_end_tag, sequence_end_tag}
use Rattle.sequence.specs.Shape.{undefined_length, shape}
use Rattle.sequence.specs.declared.shape.Shape.TheVariants.{Value, Sequence}

-- a data set as a tree: a list of elements, each a value, or a sequence with its items
mutual
  pub data Elements : Type 0 where
    no_elements : Elements
    value : Header → List ℕ → Elements → Elements
    sequence : Header → Items → Elements → Elements

  -- a sequence as a tree: a list of items, each with a data set of its own
  pub data Items : Type 0 where
    no_items : Items
    item : Header → Elements → Items → Items
    fragment : Header → List ℕ → Items → Items

-- a delimitation, the header of length 0 with its tag
-- e.g. delimitation (record { 0 = 0xfffe; 1 = 0xe0dd }) ≡ 254 ∷ 255 ∷ 221 ∷ 224 ∷ 0 ∷ 0 ∷ 0 ∷ 0 ∷ []
abbrev pub delimitation : Tag → List ℕ
delimitation t = tag_bytes t ++ le 0 4

-- the number is even
abbrev pub IsEven : ℕ → Type 0
IsEven n = n % 2 ≡ 0

-- the bytes hb are the header h of an element, with a tag above `last`, of a group that a data set may have
pub record IsElement (s : Coding) (last : ℕ) (h : Header) (hb : List ℕ) : Type 0 where
  pub spelled : SpellsHeader (layout s) h hb
  pub rising : last < number h.tag
  pub no_marker : is_marker h.tag ≡ false
  pub no_command : h.tag.0 ≢ 0
  pub no_file : h.tag.0 ≢ 2

-- the bytes hb are the header h of an item with elements
pub record IsItem (s : Coding) (h : Header) (hb : List ℕ) : Type 0 where
  pub spelled : SpellsHeader (layout s) h hb
  pub tagged : h.tag ≡ item_tag
  pub nests : has_fragments s ≡ false

-- the bytes hb are the header h of a fragment: an item of defined length that contains bytes
pub record IsFragmentItem (s : Coding) (h : Header) (hb : List ℕ) : Type 0 where
  pub spelled : SpellsHeader (layout s) h hb
  pub tagged : h.tag ≡ item_tag
  pub holds : has_fragments s ≡ true
  pub defined : h.length ≢ undefined_length

-- the bytes v are a value of that length, which is even
pub record IsValue (length-is : ℕ) (v : List ℕ) : Type 0 where
  pub even : IsEven length-is
  pub size : length v ≡ length-is

-- the bytes c are b with the end that its length calls for: nothing, if b has that defined length, or the
-- delimitation, if it is undefined
pub data Ended (mark : Tag) : ℕ → List ℕ → List ℕ → Type 0 where
  counted : {b : List ℕ} (n : ℕ) → n ≢ undefined_length → IsEven n → length b ≡ n → Ended mark n b b
  delimited : {b : List ℕ} → Ended mark undefined_length b (b ++ delimitation mark)

mutual
  -- the bytes b are the encoding of these elements, whose tags are strictly ascending and above `last`
  pub data DataSet : Coding → ℕ → Elements → List ℕ → Type 0 where
    nothing : {s : Coding} {last : ℕ} → DataSet s last no_elements []
    value_then : {s : Coding} {last : ℕ} {h : Header} {hb v : List ℕ} {es : Elements} {b : List ℕ}
        → IsElement s last h hb → shape s h ≡ Value → IsValue h.length v
        → DataSet s (number h.tag) es b
        → DataSet s last (value h v es) (hb ++ (v ++ b))
    sequence_then : {s : Coding} {last : ℕ} {h : Header} {hb : List ℕ} {inner : Coding} {is : Items} {ib cb : List ℕ} {es : Elements} {b : List ℕ}
        → IsElement s last h hb → shape s h ≡ Sequence inner → ItemList inner is ib → Ended sequence_end_tag h.length ib cb
        → DataSet s (number h.tag) es b
        → DataSet s last (sequence h is es) (hb ++ (cb ++ b))

  -- the bytes b are the encoding of these items
  pub data ItemList : Coding → Items → List ℕ → Type 0 where
    no_more : {s : Coding} → ItemList s no_items []
    item_then : {s : Coding} {h : Header} {hb : List ℕ} {es : Elements} {eb cb : List ℕ} {is : Items} {b : List ℕ}
        → IsItem s h hb → DataSet s 0 es eb → Ended item_end_tag h.length eb cb
        → ItemList s is b
        → ItemList s (item h es is) (hb ++ (cb ++ b))
    fragment_then : {s : Coding} {h : Header} {hb v : List ℕ} {is : Items} {b : List ℕ}
        → IsFragmentItem s h hb → IsValue h.length v
        → ItemList s is b
        → ItemList s (fragment h v is) (hb ++ (v ++ b))
