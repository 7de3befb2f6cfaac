-- The reading of a data set as a state machine that reads one byte after another. The levels are in the order from the
-- innermost outwards, each with the position of its end.
use Rattle.std.specs.Prelude.{◌≡◌, ℕ, ◌+◌, ◌-◌, Bool, true, false, not, ◌&&◌, List, [], ◌∷◌, ◌++◌, length, Option, Some, None, nat_eq, nat_le, if◌then◌else◌}
use Rattle.sequence.specs.Coding.{layout, has_fragments}
use Rattle.sequence.specs.declared.coding.Coding.{Coding}
use Rattle.element.specs.declared.tag.Tag.{Tag}
use Rattle.element.specs.declared.header.Header.{Header}
use Rattle.sequence.specs.declared.level.Scope.{Scope}
use Rattle.sequence.specs.declared.spot.Spot.{Spot}
use Rattle.element.specs.Header.{number, is_marker, is_whole, header_at, item_tag}
use Rattle.sequence.specs.Shape.{is_undefined, shape}
use Rattle.sequence.specs.declared.shape.Shape.{Shape}
use Rattle.sequence.specs.declared.shape.Shape.TheVariants.{Value, Sequence, NotAllowed}
use Rattle.sequence.specs.Rules.{Limits, Broken, broken_due, broken, same_tag}

abbrev pub set_scope : Coding → Option ℕ → ℕ → Scope
set_scope s stop last = record { in_sequence = false; syntax = s; stop = stop; last = last }

abbrev pub sequence_scope : Coding → Option ℕ → Scope
sequence_scope s stop = record { in_sequence = true; syntax = s; stop = stop; last = 0 }

pub data Mode : Type 0 where
  -- in a header that begins at this position, of which these bytes were read
  Heading : ℕ → List ℕ → Mode
  -- in the value of this tag, of which so many bytes remain
  Reading : Tag → ℕ → Mode
  -- after a fault: its number, its position and its tag
  Stopped : ℕ → ℕ → Tag → Mode

pub record State : Type 0 where
  pub top : Scope
  pub below : List Scope
  pub offset : ℕ
  pub mode : Mode

abbrev pub at : Scope → List Scope → ℕ → Mode → State
at f fs p m = record { top = f; below = fs; offset = p; mode = m }

abbrev pub nearer : Option ℕ → Option ℕ → Option ℕ
nearer (Some e) o = Some e
nearer None o = o

-- the end of the innermost of these levels that has a defined length
abbrev pub nearest : List Scope → Option ℕ
nearest [] = None
nearest (f ∷ fs) = nearer f.stop (nearest fs)

abbrev pub less : Option ℕ → ℕ → Option ℕ
less None p = None
less (Some e) p = Some (e - p)

abbrev pub is_none : Option ℕ → Bool
is_none None = true
is_none (Some e) = false

abbrev pub is_empty : List Scope → Bool
is_empty [] = true
is_empty (f ∷ fs) = false

abbrev pub spot_of : Scope → List Scope → ℕ → Spot
spot_of f fs p = record {
  syntax = f.syntax;
  in_sequence = f.in_sequence;
  open_ended = is_none f.stop && not (is_empty fs);
  near = less (nearer f.stop (nearest fs)) p;
  last = f.last;
  depth = length fs;
  offset = p;
}

abbrev pub stops_at : Option ℕ → ℕ → Bool
stops_at None p = false
stops_at (Some e) p = nat_eq e p

abbrev pub due_by : Broken → Scope → List Scope → ℕ → State
due_by None f fs p = at f fs p (Heading p [])
due_by (Some x) f fs p = at f fs p (Stopped x.0 p x.1)

-- the state at position p, where a header follows, or after the fault if a rule is broken there
unfoldable pub due : Scope → List Scope → ℕ → State
due f fs p = due_by (broken_due (spot_of f fs p)) f fs p

-- the state at position p, after the levels that end there are removed
unfoldable pub arrive : ℕ → Scope → List Scope → State
arrive p f [] = due f [] p
arrive p f (g ∷ gs) = if stops_at f.stop p then arrive p g gs else due f (g ∷ gs) p

abbrev pub stop_of : ℕ → ℕ → Option ℕ
stop_of p n = if is_undefined n then None else Some (p + n)

-- the state after the header of a value of n bytes
unfoldable pub begin_value : ℕ → Scope → List Scope → Tag → ℕ → State
begin_value p f fs t n = if nat_eq n 0 then arrive p f fs else at f fs p (Reading t n)

-- the state after the header of a sequence or an item of length n, whose level is g
unfoldable pub begin_level : ℕ → Scope → Scope → List Scope → ℕ → State
begin_level p g f fs n = if nat_eq n 0 then arrive p f fs else arrive p g (f ∷ fs)

-- the state after a delimitation, which ends the innermost level
unfoldable pub leave : ℕ → Scope → List Scope → State
leave p f [] = arrive p f []
leave p f (g ∷ gs) = arrive p g gs

abbrev pub started : Scope → Tag → Scope
started f t = record f { last = number t }

abbrev pub take_element : ℕ → Scope → List Scope → Header → Shape → State
take_element p f fs h Value = begin_value p (started f h.tag) fs h.tag h.length
take_element p f fs h (Sequence inner) = begin_level p (sequence_scope inner (stop_of p h.length)) (started f h.tag) fs h.length
take_element p f fs h NotAllowed = arrive p f fs

abbrev pub take_item : ℕ → Scope → List Scope → Header → State
take_item p f fs h =
    if has_fragments f.syntax then begin_value p f fs h.tag h.length
    else begin_level p (set_scope f.syntax (stop_of p h.length) 0) f fs h.length

-- the state after the whole header h
unfoldable pub take_header : ℕ → Scope → List Scope → Header → State
take_header p f fs h =
    if is_marker h.tag
    then (if same_tag h.tag item_tag then take_item p f fs h else leave p f fs)
    else take_element p f fs h (shape f.syntax h)

abbrev pub headed_by : Broken → Scope → List Scope → ℕ → ℕ → List ℕ → State
headed_by (Some x) f fs p start t = at f fs p (Stopped x.0 start x.1)
headed_by None f fs p start t = if is_whole (layout f.syntax) t then take_header p f fs (header_at (layout f.syntax) t) else at f fs p (Heading start t)

-- the state after the first bytes t of a header
unfoldable pub headed : Limits → Scope → List Scope → ℕ → ℕ → List ℕ → State
headed lim f fs p start t = headed_by (broken lim (spot_of f fs start) t) f fs p start t

unfoldable pub read : Scope → List Scope → ℕ → Tag → ℕ → State
read f fs p t n = if nat_le n 1 then arrive p f fs else at f fs p (Reading t (n - 1))

abbrev pub next_by : Limits → Scope → List Scope → ℕ → Mode → ℕ → State
next_by lim f fs p (Heading start t) x = headed lim f fs (p + 1) start (t ++ x ∷ [])
next_by lim f fs p (Reading t n) x = read f fs (p + 1) t n
next_by lim f fs p (Stopped n offset t) x = at f fs p (Stopped n offset t)

-- the state after one more byte
abbrev pub next : Limits → State → ℕ → State
next lim st x = next_by lim st.top st.below st.offset st.mode x

unfoldable pub run : Limits → State → List ℕ → State
run lim st [] = st
run lim st (x ∷ xs) = run lim (next lim st x) xs

abbrev pub start : Coding → State
start s = at (set_scope s None 0) [] 0 (Heading 0 [])

-- a mode that can be entered at position p: no byte of a header was read, and a fault has this position
abbrev pub ArrivesAt : Mode → ℕ → Type 0
ArrivesAt (Heading begin t) p = t ≡ []
ArrivesAt (Reading t n) p = Unit {0}
ArrivesAt (Stopped n offset t) p = offset ≡ p
