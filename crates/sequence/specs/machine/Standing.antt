-- The bytes of a data set that lead to a state of the machine.
use Rattle.std.specs.Prelude.{◌≡◌, ℕ, ◌+◌, ◌<◌, ◌≤◌, ◌≢◌, true, false, is_some, if◌then◌else◌, List, [], ◌∷◌, ◌++◌, length, Option, Some, None}
use Rattle.sequence.specs.declared.coding.Coding.{Coding}
use Rattle.element.specs.declared.tag.Tag.{Tag}
use Rattle.element.specs.declared.header.Header.{Header}
pub use Rattle.element.specs.Numbers.{IsBytes}
use Rattle.element.specs.Header.{number}
use Rattle.sequence.specs.declared.level.Scope.{Scope}
use Rattle.sequence.specs.declared.spot.Spot.{Spot}
use Rattle.sequence.specs.declared.wanted.Want.{Want}
use Rattle.sequence.specs.declared.shape.Shape.TheVariants.{Value, Sequence}
use Rattle.sequence.specs.Shape.{undefined_length, shape}
use Rattle.sequence.specs.Tree.{Elements, Items, IsEven, IsElement, IsItem, IsFragmentItem, DataSet, ItemList}
use Rattle.sequence.specs.Open.{last_of, IsUnfinishedHeader, IsRemaining}
use Rattle.sequence.specs.Wanted.{Values, room_of, kept_of}
use Rattle.sequence.specs.Within.{FitRooms}
use Rattle.sequence.specs.Rules.{Limits, broken}
use Rattle.sequence.specs.machine.Machine.{set_scope, sequence_scope, stop_of, stops_at, spot_of, Mode, Heading, Reading, Stopped, State}
use Rattle.sequence.specs.Holding.{started_in}
use Rattle.sequence.specs.machine.Keeping.{with_value}

-- a length that is defined is even
abbrev pub IsLength : ℕ → Type 0
IsLength n = n ≢ undefined_length → IsEven n

-- in a data set of encoding s these bytes lead to these levels, the innermost first, and contain these wanted values
pub data Reaches (s : Coding) (ws : List Want) : Values → Scope → List Scope → List ℕ → Type 0 where
  at_root : {es : Elements} {b : List ℕ} {last : ℕ} {values : Values}
      → DataSet s 0 es b → last ≡ last_of 0 es → values ≡ kept_of ws es → FitRooms ws es → Reaches s ws values (set_scope s None last) [] b
  into_sequence : {s1 : Coding} {stop out : Option ℕ} {last : ℕ} {fs : List Scope} {q : List ℕ} {h : Header} {hb : List ℕ} {inner : Coding} {is : Items} {ib b : List ℕ} {k : ℕ} {values : Values}
      → Reaches s ws values (set_scope s1 out last) fs q → IsElement s1 last h hb → shape s1 h ≡ Sequence inner → IsLength h.length → h.length ≢ 0 → ItemList inner is ib
      → stop ≡ stop_of (length (q ++ hb)) h.length → k ≡ number h.tag → b ≡ q ++ (hb ++ ib)
      → Reaches s ws values (sequence_scope inner stop) (set_scope s1 out k ∷ fs) b
  into_item : {s1 : Coding} {stop out : Option ℕ} {last : ℕ} {fs : List Scope} {q : List ℕ} {h : Header} {hb : List ℕ} {es : Elements} {eb b : List ℕ} {values : Values}
      → Reaches s ws values (sequence_scope s1 out) fs q → IsItem s1 h hb → IsLength h.length → h.length ≢ 0 → DataSet s1 0 es eb
      → stop ≡ stop_of (length (q ++ hb)) h.length → last ≡ last_of 0 es → b ≡ q ++ (hb ++ eb)
      → Reaches s ws values (set_scope s1 stop last) (sequence_scope s1 out ∷ fs) b

-- no level of defined length ends before one inside it
abbrev pub AreNested : Option ℕ → List Scope → Type 0
AreNested near [] = Unit {0}
AreNested near (f ∷ fs) = IsRemaining f.stop near × AreNested (if is_some f.stop then f.stop else near) fs

-- the level does not end before position n
abbrev pub LastsTo : Option ℕ → ℕ → Type 0
LastsTo None n = Unit {0}
LastsTo (Some e) n = n ≤ e

abbrev pub AllLastTo : List Scope → ℕ → Type 0
AllLastTo [] n = Unit {0}
AllLastTo (f ∷ fs) n = LastsTo f.stop n × AllLastTo fs n

-- at position n the levels are within their lengths and the limits of the data set
pub record AreLevels (lim : Limits) (f : Scope) (fs : List Scope) (n : ℕ) : Type 0 where
  pub nested : AreNested None (f ∷ fs)
  pub hold : AllLastTo (f ∷ fs) n
  pub deep : length fs ≤ lim.depth
  pub short : n ≤ lim.bytes

-- after the bytes `before` a header follows
pub record IsDue (s : Coding) (lim : Limits) (values : Values) (f : Scope) (fs : List Scope) (before : List ℕ) : Type 0 where
  pub reaches : Reaches s lim.wanted values f fs before
  pub levels : AreLevels lim f fs (length before)
  pub stays : stops_at f.stop (length before) ≡ false

-- no prefix of t breaks a rule
abbrev pub Unbroken : Limits → Spot → List ℕ → Type 0
Unbroken lim spot t = (u v : List ℕ) → t ≡ u ++ v → broken lim spot u ≡ None

-- after the bytes `before` there are the bytes t of an unfinished header
pub record IsHeading (s : Coding) (lim : Limits) (values : Values) (f : Scope) (fs : List Scope) (begin : ℕ) (t b : List ℕ) : Type 0 where
  pub before : List ℕ
  pub due : IsDue s lim values f fs before
  pub offset : begin ≡ length before
  pub text : b ≡ before ++ t
  pub tail : IsUnfinishedHeader f.syntax t
  pub unbroken : Unbroken lim (spot_of f fs begin) t
  pub bytes : IsBytes t

-- n is at most the limit of the value with tag t, if that is wanted and in the data set itself
abbrev pub IsFit : List Want → List Scope → ℕ → ℕ → Type 0
IsFit ws [] t n = (room : ℕ) → room_of ws t ≡ Some room → n ≤ room
IsFit ws (f ∷ fs) t n = Unit {0}

-- h is the header of an element with a value or of a fragment, in this level
pub data BeginsIn (ws : List Want) (f : Scope) (fs : List Scope) (h : Header) (hb : List ℕ) : Type 0 where
  an_element : f.in_sequence ≡ false → IsElement f.syntax f.last h hb → shape f.syntax h ≡ Value → IsFit ws fs (number h.tag) h.length → BeginsIn ws f fs h hb
  a_fragment : f.in_sequence ≡ true → IsFragmentItem f.syntax h hb → BeginsIn ws f fs h hb

-- the value or the fragment after the header h is unfinished: n of its bytes remain
pub record IsReading (s : Coding) (lim : Limits) (values : Values) (f : Scope) (fs : List Scope) (t : Tag) (n : ℕ) (b : List ℕ) : Type 0 where
  pub before : List ℕ
  pub whole : Values
  -- the level before this element
  pub round : Scope
  pub h : Header
  pub hb : List ℕ
  pub v : List ℕ
  pub reaches : Reaches s lim.wanted whole round fs before
  pub levels : AreLevels lim f fs (length (b) + n)
  pub top : f ≡ started_in round h
  pub begins : BeginsIn lim.wanted round fs h hb
  pub even : IsEven h.length
  pub size : length v + n ≡ h.length
  pub more : 0 < n
  pub tagged : t ≡ h.tag
  pub text : b ≡ before ++ (hb ++ v)
  pub kept : values ≡ with_value lim fs (number h.tag) v whole

-- the bytes u of a header have broken a rule
pub record IsStopped (s : Coding) (lim : Limits) (values : Values) (f : Scope) (fs : List Scope) (p rule offset : ℕ) (t : Tag) (b : List ℕ) : Type 0 where
  pub before : List ℕ
  pub u : List ℕ
  pub rest : List ℕ
  pub due : IsDue s lim values f fs before
  pub offset-is : offset ≡ length before
  pub received : p ≡ length (before ++ u)
  pub text : b ≡ (before ++ u) ++ rest
  pub breaks : broken lim (spot_of f fs offset) u ≡ Some (rule, t)
  pub unbroken : (w : List ℕ) (x : ℕ) (z : List ℕ) → u ≡ w ++ x ∷ z → broken lim (spot_of f fs offset) w ≡ None
  -- without their last byte they are an unfinished header
  pub one_header : (w : List ℕ) (x : ℕ) (z : List ℕ) → u ≡ w ++ x ∷ z → IsUnfinishedHeader f.syntax w

abbrev pub StandsIn : Coding → Limits → Values → Scope → List Scope → ℕ → Mode → List ℕ → Type 0
StandsIn s lim values f fs p (Heading begin t) b = (p ≡ length b) × IsHeading s lim values f fs begin t b
StandsIn s lim values f fs p (Reading t n) b = (p ≡ length b) × IsReading s lim values f fs t n b
StandsIn s lim values f fs p (Stopped rule offset t) b = IsStopped s lim values f fs p rule offset t b

-- the bytes b lead to this state of the machine and to these wanted values
abbrev pub Stands : Coding → Limits → State → Values → List ℕ → Type 0
Stands s lim st values b = StandsIn s lim values st.top st.below st.offset st.mode b
