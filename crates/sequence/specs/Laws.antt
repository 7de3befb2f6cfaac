-- Statements that follow from the definitions alone; `src/laws.rt` has the functions whose contracts they are.
use Rattle.std.specs.Prelude.{◌≡◌, ℕ, true, ◌+◌, ◌*◌, ◌≤◌, List, [], ◌∷◌, ◌++◌, None, Some}
use Rattle.element.specs.declared.size.Need.TheVariants.{Size}
use Rattle.sequence.specs.Coding.{coding_of, layout, is_native, has_fragments}
use Rattle.sequence.specs.declared.coding.Coding.{Coding}
use Rattle.element.specs.declared.tag.Tag.{Tag}
use Rattle.element.specs.Header.{need}
use Rattle.element.specs.Numbers.{IsBytes}
use Rattle.sequence.specs.declared.fault.Fault.{Fault}
use Rattle.element.specs.declared.syntax.Syntax.{Syntax}
use Rattle.sequence.specs.declared.coding.Coding.TheVariants.{Explicit, Encapsulated}
use Rattle.sequence.specs.Tree.{Elements, no_elements, value, sequence, Items, no_items, item, fragment, DataSet}
use Rattle.element.specs.declared.header.Header.{Header}
use Rattle.sequence.specs.Shape.{shape}
use Rattle.sequence.specs.declared.shape.Shape.TheVariants.{Sequence}
use Rattle.sequence.specs.Open.{PathEntry, Tail, IsUnfinishedHeader, Open}
use Rattle.sequence.specs.Rules.{Limits}
use Rattle.sequence.specs.Wanted.{rooms, level_size}
use Rattle.sequence.specs.FirstFault.{IsUnbroken, FirstFault}
use Rattle.sequence.specs.declared.walker.Walker.{Walker}
use Rattle.sequence.specs.Consumed.{StandsAt, fault_of}
use Rattle.sequence.specs.Walk.{Report, Reports}
use Rattle.sequence.specs.Holding.{Holding, Holds}

-- the first fault of a text is also the first fault of every text that extends it
abbrev pub FaultStays : Type 0
FaultStays = (s : Coding) (lim : Limits) (b more p u : List ℕ) (rule : ℕ) (tag : Tag) → IsBytes (b ++ more) → FirstFault s lim b p u rule tag → FirstFault s lim (b ++ more) p u rule tag

-- what a walker reports after a fault stays the same, whatever bytes follow
abbrev pub RefusalStays : Type 0
RefusalStays = (s : Coding) (lim : Limits) (b more : List ℕ) (reported : Report) (fault : Fault) → IsBytes (b ++ more) → reported.fault ≡ Some fault → Reports s lim b reported → Reports s lim (b ++ more) reported

-- the state of a walker that has found a fault is also its state after any further bytes
abbrev pub RefusedStands : Type 0
RefusedStands = (V D : ℕ) (w : Walker V D) (b more : List ℕ) (fault : Fault) → fault_of w ≡ Some fault → IsBytes more → StandsAt w b → StandsAt w (b ++ more)

-- a text encodes at most one data set
abbrev pub OneTree : Type 0
OneTree = (s : Coding) (last : ℕ) (es es2 : Elements) (b : List ℕ) → DataSet s last es b → DataSet s last es2 b → es ≡ es2

-- a text determines its whole elements, its open levels, the last tag and the unfinished header or value
abbrev pub OnePath : Type 0
OnePath =
    (s : Coding) (b : List ℕ) (es es2 : Elements) (path path2 : List PathEntry) (last last2 : ℕ) (tail tail2 : Tail)
    → Open s b es path last tail → Open s b es2 path2 last2 tail2 → (es ≡ es2) × (path ≡ path2) × (last ≡ last2) × (tail ≡ tail2)

-- a level of defined length lacks at least as many bytes as any such level inside it
abbrev pub EndsAreNested : Type 0
EndsAreNested =
    (s : Coding) (b : List ℕ) (es : Elements) (path inside between around : List PathEntry) (inner outer : PathEntry) (last n k : ℕ) (tail : Tail)
    → Open s b es path last tail → path ≡ inside ++ inner ∷ (between ++ outer ∷ around) → inner.remaining ≡ Some n → outer.remaining ≡ Some k → n ≤ k

-- some level of the path has undefined length
pub data HasOpenEnded : List PathEntry → Type 0 where
  this_one : {e : PathEntry} {path : List PathEntry} → e.remaining ≡ None → HasOpenEnded (e ∷ path)
  one_round : {e : PathEntry} {path : List PathEntry} → HasOpenEnded path → HasOpenEnded (e ∷ path)

-- an open level of defined length that lacks no byte has a level of undefined length inside it
abbrev pub WholeHasOpenInside : Type 0
WholeHasOpenInside =
    (s : Coding) (b : List ℕ) (es : Elements) (path inside around : List PathEntry) (e : PathEntry) (last : ℕ) (tail : Tail)
    → Open s b es path last tail → path ≡ inside ++ e ∷ around → e.remaining ≡ Some 0 → HasOpenEnded inside

-- a text has one first fault at most
abbrev pub OneFault : Type 0
OneFault = (s : Coding) (lim : Limits) (b p p2 u u2 : List ℕ) (rule rule2 : ℕ) (tag tag2 : Tag)
    → FirstFault s lim b p u rule tag → FirstFault s lim b p2 u2 rule2 tag2 → (p ≡ p2) × (u ≡ u2) × (rule ≡ rule2) × (tag ≡ tag2)

-- a text determines what a walker reports after it
abbrev pub OneTelling : Type 0
OneTelling = (s : Coding) (lim : Limits) (b : List ℕ) (reported reported2 : Report) → Reports s lim b reported → Reports s lim b reported2 → reported ≡ reported2

-- the bytes that a walker holds after a text are at most the 12 of a header, the greatest sizes of the wanted values,
-- and 16 for each level that may be open
abbrev pub HeldHasABound : Type 0
HeldHasABound = (s : Coding) (lim : Limits) (b : List ℕ) (reported : Report) → IsBytes b → Reports s lim b reported → reported.held ≤ 12 + rooms lim.wanted + level_size * lim.depth

-- a text determines the state of a walker after it
abbrev pub OneHolding : Type 0
OneHolding = (s : Coding) (lim : Limits) (b : List ℕ) (held held2 : Holding) → Holds s lim b held → Holds s lim b held2 → held ≡ held2

-- the definition of a walker's report covers every text
abbrev pub SomeTelling : Type 0
SomeTelling = (s : Coding) (lim : Limits) (b : List ℕ) → IsBytes b → (reported : Report) × Reports s lim b reported

-- the empty text breaks no rule
abbrev pub NothingIsUnbroken : Type 0
NothingIsUnbroken = (s : Coding) (lim : Limits) → IsUnbroken s lim []

-- no byte at all is an unfinished header
abbrev pub NoHeader : Type 0
NoHeader = (s : Coding) → IsUnfinishedHeader s []

-- a header has at least eight bytes
abbrev pub LeastHeader : Type 0
LeastHeader = (s : Coding) (b : List ℕ) (k : ℕ) → need (layout s) b ≡ Size k → 8 ≤ k

-- two lists of bytes, joined, are a list of bytes
abbrev pub BytesAreJoined : Type 0
BytesAreJoined = (a b : List ℕ) → IsBytes a → IsBytes b → IsBytes (a ++ b)

-- a sequence inside a data set in Implicit or Explicit is itself in one of these two
abbrev pub NativeInside : Type 0
NativeInside = (s inner : Coding) (h : Header) → is_native s ≡ true → shape s h ≡ Sequence inner → is_native inner ≡ true

-- a data set in Implicit or Explicit has no fragments
abbrev pub NativeHasNone : Type 0
NativeHasNone = (s : Coding) → is_native s ≡ true → has_fragments s ≡ true → ⊥

-- these elements contain no encapsulated Pixel Data
abbrev mutual
  pub AreNative : Elements → Type 0
  AreNative no_elements = Unit {0}
  AreNative (value h v es) = AreNative es
  AreNative (sequence h is es) = AreNativeItems is × AreNative es

  pub AreNativeItems : Items → Type 0
  AreNativeItems no_items = Unit {0}
  AreNativeItems (item h es is) = AreNative es × AreNativeItems is
  AreNativeItems (fragment h v is) = ⊥

-- a data set in Implicit or Explicit contains no encapsulated Pixel Data
abbrev pub SyntaxesAreNative : Type 0
SyntaxesAreNative = (syntax : Syntax) (last : ℕ) (es : Elements) (b : List ℕ) → DataSet (coding_of syntax) last es b → AreNative es

-- a data set in Explicit is also one, with the same elements, in the encoding in which Pixel Data may be encapsulated
abbrev pub ExplicitIsEncapsulated : Type 0
ExplicitIsEncapsulated = (last : ℕ) (es : Elements) (b : List ℕ) → DataSet Explicit last es b → DataSet Encapsulated last es b
