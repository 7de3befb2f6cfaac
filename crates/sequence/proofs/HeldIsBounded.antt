-- What a walk holds has a bound (`held_has_a_bound`): the rooms of the wanted values, an unfinished header, and 16 bytes for
-- each level of the limit. Stands on MachineReports/AnyText, MachineStands and OneReading/OneReport.
use Rattle.std.proofs.Common.{◌≡◌, ℕ, ◌+◌, ◌*◌, ◌<◌, ◌≤◌, Bool, true, false, ◌&&◌, List, [], ◌∷◌, ◌++◌, length, Option, Some, None, is_some, nat_eq, nat_lt, refl, ap, ◌∙◌, arith, inl, inr, eqb-true, if◌then◌else◌}
use Rattle.std.proofs.lemmas.Bool.{cases_lt, lt-ltb, le-ltb}
use Rattle.sequence.specs.declared.coding.Coding.{Coding}
use Rattle.element.specs.Header.{number}
use Rattle.sequence.specs.declared.level.Scope.{Scope}
use Rattle.sequence.specs.declared.wanted.Want.{Want}
use Rattle.sequence.specs.Tree.{Elements, DataSet, nothing, value_then, sequence_then}
use Rattle.sequence.specs.Open.{last_of}
use Rattle.sequence.specs.Wanted.{Values, room_of, rooms, kept_of, size_of_values}
use Rattle.sequence.specs.Within.{FitRooms}
use Rattle.sequence.specs.Rules.{Limits}
use Rattle.sequence.specs.Walk.{Report}
use Rattle.sequence.specs.Laws.{HeldHasABound}
use Rattle.sequence.specs.machine.Machine.{Mode, Heading, Reading, Stopped, run, start}
use Rattle.sequence.specs.machine.Keeping.{keeps, with_value}
use Rattle.sequence.specs.machine.Reported.{header_in, reported_in}
use Rattle.sequence.specs.machine.Standing.{Reaches, at_root, into_sequence, into_item, IsFit, BeginsIn, an_element, a_fragment, IsReading, StandsIn}
use Rattle.sequence.proofs.MachineStands.HeaderParts.{part_short}
use Rattle.sequence.proofs.MachineStands.HeaderConsumed.{inside_kept}
use Rattle.sequence.proofs.MachineReports.AnyText.{stands, reports}
use Rattle.sequence.proofs.OneReading.OneReport.{one_telling}

-- ---- the rooms of the wanted tags above `last`

abbrev above : ℕ → List Want → ℕ
above last [] = 0
above last (w ∷ ws) = (if nat_lt last (number w.tag) then w.room else 0) + above last ws

one_above : (last t k room : ℕ) → last ≤ t → (if nat_lt t k then room else 0) ≤ (if nat_lt last k then room else 0)
one_above last t k room le = elim (cases_lt t k) [
  | inl lt ↦ rw (lt-ltb t k lt, lt-ltb last k (omega (arith, lt, le))) (omega arith)
  | inr ge ↦ rw (le-ltb t k ge) (omega arith)
]

fewer_above : (last t : ℕ) (ws : List Want) → last ≤ t → above t ws ≤ above last ws
fewer_above last t [] le = omega arith
fewer_above last t (w ∷ ws) le = omega (arith, one_above last t (number w.tag) w.room le, fewer_above last t ws le)

-- the room of a tag above `last` is one of them
room_above : (last t room : ℕ) (ws : List Want) → last < t → room_of ws t ≡ Some room → room + above t ws ≤ above last ws
room_above last t room [] lt e = absurd cc
room_above last t room (w ∷ ws) lt e = by (nat_eq (number w.tag) t) refl e (λ is. room_above last t room ws lt is)
  where
    by : (b : Bool) → nat_eq (number w.tag) t ≡ b → (if b then Some w.room else room_of ws t) ≡ Some room → (room_of ws t ≡ Some room → room + above t ws ≤ above last ws) → room + above t (w ∷ ws) ≤ above last (w ∷ ws)
    by true same is later =
        let here : number w.tag ≡ t = eqb-true (number w.tag) t same in
        let room_is : w.room ≡ room = cc in
        let none : (if nat_lt t (number w.tag) then w.room else 0) ≡ 0 = rw (le-ltb t (number w.tag) (omega (arith, here))) refl in
        let some : (if nat_lt last (number w.tag) then w.room else 0) ≡ w.room = rw (lt-ltb last (number w.tag) (omega (arith, here, lt))) refl in
        omega (arith, none, some, room_is, fewer_above last t ws (omega (arith, lt)))
    by false same is later = omega (arith, one_above last t (number w.tag) w.room (omega (arith, lt)), later is)

some_of : (b : Bool) (n : ℕ) → (if b then n else 0) ≤ n
some_of true n = omega arith
some_of false n = omega arith

all_above : (last : ℕ) (ws : List Want) → above last ws ≤ rooms ws
all_above last [] = omega arith
all_above last (w ∷ ws) = omega (arith, some_of (nat_lt last (number w.tag)) w.room, all_above last ws)

-- ---- the values of rising tags

kept_value : (ws : List Want) (last t remaining : ℕ) (v : List ℕ) (more : Values) (o : Option ℕ) → room_of ws t ≡ o → last < t → ((room : ℕ) → room_of ws t ≡ Some room → length v ≤ room)
    → size_of_values more + remaining ≤ above t ws → size_of_values (if is_some o then (t, v) ∷ more else more) + remaining ≤ above last ws
kept_value ws last t remaining v more None e lt fit le = omega (arith, le, fewer_above last t ws (omega (arith, lt)))
kept_value ws last t remaining v more (Some room) e lt fit le = omega (arith, fit room e, le, room_above last t room ws lt e)

-- those of a data set leave the rooms of the tags after it
kept_small : {s : Coding} {last : ℕ} {es : Elements} {b : List ℕ} (ws : List Want) → DataSet s last es b → FitRooms ws es → size_of_values (kept_of ws es) + above (last_of last es) ws ≤ above last ws
kept_small ws nothing fit = omega arith
kept_small ws (value_then {last = last} {h = h} {v = v} {es = es} el sh val rest) fit =
    kept_value ws last (number h.tag) (above (last_of (number h.tag) es) ws) v (kept_of ws es) (room_of ws (number h.tag)) refl el.rising fit.0 (kept_small ws rest fit.1)
kept_small ws (sequence_then {last = last} {h = h} el sh items closed rest) fit =
    omega (arith, kept_small ws rest fit, fewer_above last (number h.tag) ws (let rises = el.rising in omega (arith, rises)))

-- ---- along the machine

-- of the data set itself the tags after its last one have their rooms yet
abbrev still : ℕ → List Scope → List Want → ℕ
still last [] ws = above last ws
still last (f ∷ fs) ws = 0

reached_small : {s : Coding} {ws : List Want} {values : Values} {f : Scope} {fs : List Scope} {b : List ℕ} → Reaches s ws values f fs b → size_of_values values + still f.last fs ws ≤ rooms ws
reached_small {ws = ws} (at_root {es = es} {last = last} set last_is kept fits) =
    omega (arith, kept_small ws set fits, ap (λ (n : ℕ). above n ws) last_is, ap size_of_values kept, all_above 0 ws)
reached_small (into_sequence r el sh len some items stop_is k_is text) = let le = reached_small r in omega (arith, le)
reached_small (into_item r it len some set stop_is last_is text) = let le = reached_small r in omega (arith, le)

size_with : (values : Values) (one : ℕ × List ℕ) → size_of_values (values ++ one ∷ []) ≡ size_of_values values + length one.1
size_with [] one = omega arith
size_with (a ∷ values) one = omega (arith, size_with values one)

started_small : (lim : Limits) (fs : List Scope) (last t n : ℕ) (v : List ℕ) (whole : Values) → size_of_values whole + still last fs lim.wanted ≤ rooms lim.wanted → last < t → IsFit lim.wanted fs t n → length v ≤ n
    → size_of_values (with_value lim fs t v whole) ≤ rooms lim.wanted
started_small lim (f ∷ fs) last t n v whole le lt fit few = omega (arith, le)
started_small lim [] last t n v whole le lt fit few = by (room_of lim.wanted t) refl
  where
    by : (o : Option ℕ) → room_of lim.wanted t ≡ o → size_of_values (if true && is_some o then whole ++ (t, v) ∷ [] else whole) ≤ rooms lim.wanted
    by None e = omega (arith, le)
    by (Some room) e = omega (arith, le, few, fit room e, room_above last t room lim.wanted lt e, size_with whole (t, v))

reading_small : (s : Coding) (lim : Limits) (values : Values) (f : Scope) (fs : List Scope) (n : ℕ) (b : List ℕ) {t : _} → IsReading s lim values f fs t n b → size_of_values values ≤ rooms lim.wanted
reading_small s lim values f fs n b r = by r.begins
  where
    by : BeginsIn lim.wanted r.round fs r.h r.hb → size_of_values values ≤ rooms lim.wanted
    by (an_element here el sh fits) = omega (arith, ap size_of_values r.kept, started_small lim fs r.round.last (number r.h.tag) r.h.length r.v r.whole (reached_small r.reaches) el.rising fits (let size = r.size in omega (arith, size)))
    by (a_fragment here it) = omega (arith, ap size_of_values (r.kept ∙ inside_kept lim (number r.h.tag) r.v r.whole r.reaches here), reached_small r.reaches)

mode_small : (s : Coding) (lim : Limits) (values : Values) (f : Scope) (fs : List Scope) (p : ℕ) (m : Mode) (b : List ℕ) → StandsIn s lim values f fs p m b → header_in m + size_of_values values + 16 * length fs ≤ 12 + rooms lim.wanted + 16 * lim.depth
mode_small s lim values f fs p (Heading begin t) b h = omega (arith, part_short f.syntax t h.1.tail, reached_small h.1.due.reaches, h.1.due.levels.deep)
mode_small s lim values f fs p (Reading t n) b h = omega (arith, reading_small s lim values f fs n b h.1, h.1.levels.deep)
mode_small s lim values f fs p (Stopped rule offset t) b h = omega (arith, reached_small h.due.reaches, h.due.levels.deep)

pub held_has_a_bound : HeldHasABound
held_has_a_bound s lim b reported bytes h =
    let st = run lim (start s) b in
    let values = keeps lim (start s) [] b in
    let same : reported ≡ reported_in lim st values = one_telling s lim b reported (reported_in lim st values) h (reports s lim b bytes) in
    omega (arith, ap (λ (x : Report). x.held) same, mode_small s lim values st.top st.below st.offset st.mode b (stands s lim b bytes))
