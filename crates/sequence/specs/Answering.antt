-- What `Walker::step` returns for the bytes that it consumed (this product's own profile).
use Rattle.std.specs.Prelude.{◌≡◌, ℕ, ◌+◌, ◌<◌, ◌≤◌, true, false, List, [], ◌++◌, length}
use Rattle.sequence.specs.Coding.{layout}
use Rattle.sequence.specs.declared.coding.Coding.{Coding}
use Rattle.element.specs.declared.tag.Tag.{Tag}
use Rattle.element.specs.declared.header.Header.{Header}
use Rattle.element.specs.Header.{is_marker, SpellsHeader}
use Rattle.sequence.specs.declared.step.Step.{Step}
use Rattle.sequence.specs.declared.step.Step.TheVariants.{More, Element, Run, Opened, Closed, Refused}
use Rattle.sequence.specs.Tree.{Elements}
use Rattle.sequence.specs.Open.{PathEntry, in_header, in_value, Open}
use Rattle.sequence.specs.Rules.{Limits, same_tag}
use Rattle.element.specs.Header.{item_tag}
use Rattle.sequence.specs.FirstFault.{spot_behind, IsUnbroken, FirstFault}

-- the text c ends with the whole header h, of an element, an item or a delimitation, and `consumed` is its last part
pub record EndsHeader (s : Coding) (c consumed : List ℕ) (h : Header) : Type 0 where
  pub before : List ℕ
  pub bytes : List ℕ
  pub text : c ≡ before ++ bytes
  pub elements : Elements
  pub path : List PathEntry
  pub last : ℕ
  pub due : Open s before elements path last (in_header [])
  pub spelled : SpellsHeader (layout (spot_behind s path last (length before)).syntax) h bytes
  pub some : 0 < length consumed
  pub own : length consumed ≤ length bytes

-- the text c ends with the bytes `consumed` of one value or fragment
pub record EndsRun (s : Coding) (c consumed : List ℕ) : Type 0 where
  pub before : List ℕ
  pub text : c ≡ before ++ consumed
  pub elements : Elements
  pub path : List PathEntry
  pub last : ℕ
  pub header : Header
  pub value : List ℕ
  pub front : Open s before elements path last (in_value header value)
  pub some : 0 < length consumed
  pub within : length value + length consumed ≤ header.length

-- the text c ends inside a header, and `consumed` is the last part of it
pub record EndsPart (s : Coding) (c consumed : List ℕ) : Type 0 where
  pub elements : Elements
  pub path : List PathEntry
  pub last : ℕ
  pub started : List ℕ
  pub front : Open s c elements path last (in_header started)
  pub some : 0 < length consumed
  pub own : length consumed ≤ length started

-- the step returns a slice of these bytes
abbrev pub IsRun : List ℕ → Step → Type 0
IsRun bytes (Run run) = run.now ≡ bytes
IsRun bytes More = ⊥
IsRun bytes (Element h) = ⊥
IsRun bytes (Opened h) = ⊥
IsRun bytes (Closed h) = ⊥
IsRun bytes (Refused fault) = ⊥

-- the text p ends with a whole header or value, and `consumed` is the last part of it
pub data EndsWith (s : Coding) (p consumed : List ℕ) : Type 0 where
  of_header : {h : Header} → EndsHeader s p consumed h → EndsWith s p consumed
  of_value : EndsRun s p consumed → EndsWith s p consumed

-- a step that finds a fault consumes bytes of one header or one value: of the faulty header u that follows the text p;
-- or, where no header fits after p, of the header or the value with which p ends
pub data RefusesAt (s : Coding) (p u consumed : List ℕ) : Type 0 where
  in_header_of_fault : 0 < length consumed → length consumed ≤ length u → RefusesAt s p u consumed
  at_end : u ≡ [] → EndsWith s p consumed → RefusesAt s p u consumed

-- after the text b, a step that consumes the bytes `consumed` of the piece returns this
pub data Answers (s : Coding) (lim : Limits) (b piece consumed : List ℕ) : Step → Type 0 where
  -- the piece is empty
  no_piece : IsUnbroken s lim b → piece ≡ [] → consumed ≡ [] → Answers s lim b piece consumed More
  -- the header does not end in the piece
  continues : IsUnbroken s lim (b ++ consumed) → EndsPart s (b ++ consumed) consumed → consumed ≡ piece → Answers s lim b piece consumed More
  element : {h : Header} → IsUnbroken s lim (b ++ consumed) → EndsHeader s (b ++ consumed) consumed h → is_marker h.tag ≡ false → Answers s lim b piece consumed (Element h)
  opened : {h : Header} → IsUnbroken s lim (b ++ consumed) → EndsHeader s (b ++ consumed) consumed h → is_marker h.tag ≡ true → same_tag h.tag item_tag ≡ true → Answers s lim b piece consumed (Opened h)
  closed : {h : Header} → IsUnbroken s lim (b ++ consumed) → EndsHeader s (b ++ consumed) consumed h → is_marker h.tag ≡ true → same_tag h.tag item_tag ≡ false → Answers s lim b piece consumed (Closed h)
  runs : {step : Step} → IsUnbroken s lim (b ++ consumed) → EndsRun s (b ++ consumed) consumed → IsRun consumed step → Answers s lim b piece consumed step
  -- these bytes break a rule; no byte is consumed after the shortest front of the text that breaks one
  refuses : {p u : List ℕ} {rule : ℕ} {tag : Tag} → IsUnbroken s lim b → FirstFault s lim (b ++ consumed) p u rule tag → b ++ consumed ≡ p ++ u → RefusesAt s p u consumed
      → Answers s lim b piece consumed (Refused (record { number = rule; offset = length p; tag = tag }))
  -- a rule was broken before
  stays : {p u : List ℕ} {rule : ℕ} {tag : Tag} → FirstFault s lim b p u rule tag → consumed ≡ [] → Answers s lim b piece consumed (Refused (record { number = rule; offset = length p; tag = tag }))
