-- The machine goes over each data set and each list of items that is spelled, or stops at a fault (`elements_run`,
-- `items_run`). Stands on the laws of `element`.
use Rattle.std.proofs.Common.{◌≡◌, ℕ, suc, ◌+◌, ◌-◌, ◌<◌, ◌≤◌, ◌⊎◌, Bool, true, false, List, [], ◌∷◌, ◌++◌, length, Option, Some, None, nat_eq, nat_le, refl, sym, ap, subst, ◌∙◌, inl, inr, arith, append_assoc, length-append, eqb-true, false-eqb, eq-eqb, le-leb, ne_eqb, ◌≢◌, lit<}
use Rattle.std.proofs.lemmas.Bool.Decides.{nat_tests}
use Rattle.sequence.specs.Coding.{layout, has_fragments}
use Rattle.sequence.specs.declared.coding.Coding.{Coding}
use Rattle.sequence.specs.declared.coding.Coding.TheVariants.{Implicit, Explicit, Encapsulated, Fragments}
use Rattle.element.specs.declared.tag.Tag.{Tag}
use Rattle.element.specs.declared.header.Header.{Header}
use Rattle.sequence.specs.declared.level.Scope.{Scope}
use Rattle.sequence.specs.Rules.{Limits}
use Rattle.element.specs.Header.{number, is_marker, is_plain, header_at, IsTag, SpellsHeader, plain, item_tag, item_end_tag, sequence_end_tag}
use Rattle.sequence.specs.Shape.{is_undefined, undefined_length, shape}
use Rattle.sequence.specs.declared.shape.Shape.TheVariants.{Value, Sequence}
use Rattle.sequence.specs.Tree.{delimitation, Elements, Items, IsElement, IsItem, IsFragmentItem, IsValue, Ended, counted, delimited, DataSet, nothing, value_then, sequence_then, ItemList, no_more, item_then, fragment_then}
use Rattle.sequence.specs.Open.{last_of}
use Rattle.sequence.specs.Rules.{Broken, broken_due, broken}
use Rattle.element.specs.Header.{is_whole}
use Rattle.sequence.specs.machine.Machine.{set_scope, sequence_scope, Mode, Heading, Reading, Stopped, State, at, spot_of, due_by, due, arrive, stop_of, begin_value, begin_level, leave, stops_at, take_header, headed_by, headed, read, next, run}
use Rattle.sequence.specs.machine.Standing.{LastsTo}
use Rattle.element.proofs.Public.{whole_spelled, read_spelled, front_spelled, spelled_long}

abbrev pub HasStopped : Mode → Type 0
HasStopped (Stopped n p t) = Unit {0}
HasStopped (Heading start t) = ⊥
HasStopped (Reading t n) = ⊥

-- the state is the one that is wanted, or a fault stopped the machine
abbrev pub Goes : State → State → Type 0
Goes got want = (got ≡ want) ⊎ HasStopped got.mode

pub run_append : (lim : Limits) (st : State) (a b : List ℕ) → run lim st (a ++ b) ≡ run lim (run lim st a) b
unfolding run
run_append lim st [] b = refl
run_append lim st (x ∷ a) b = run_append lim (next lim st x) a b

pub run_stopped : (lim : Limits) (f : Scope) (fs : List Scope) (p : ℕ) (m : Mode) (b : List ℕ) → HasStopped m → run lim (at f fs p m) b ≡ at f fs p m
unfolding run
run_stopped lim f fs p (Stopped n q t) [] h = refl
run_stopped lim f fs p (Stopped n q t) (x ∷ b) h = run_stopped lim f fs p (Stopped n q t) b h
run_stopped lim f fs p (Heading q t) b h = absurd h
run_stopped lim f fs p (Reading t n) b h = absurd h

-- the scope has bytes left
abbrev pub IsOpen : Option ℕ → ℕ → Type 0
IsOpen None p = Unit {0}
IsOpen (Some e) p = p < e

pub arrive_open : (p : ℕ) (f : Scope) (fs : List Scope) → IsOpen f.stop p → arrive p f fs ≡ due f fs p
unfolding arrive
arrive_open p f [] h = refl
arrive_open p f (g ∷ gs) h = rw (open_stops f.stop p h) refl
  where
    open_stops : (o : Option ℕ) (p : ℕ) → IsOpen o p → stops_at o p ≡ false
    open_stops None p h = refl
    open_stops (Some e) p h = grind (arith, nat_tests)

pub arrive_stopped : (p : ℕ) (f g : Scope) (gs : List Scope) → f.stop ≡ Some p → arrive p f (g ∷ gs) ≡ arrive p g gs
unfolding arrive
arrive_stopped p f g gs e = rw (ap (λ o. stops_at o p) e ∙ eq-eqb p p refl) refl

pub open_from_lasts : (o : Option ℕ) (p n : ℕ) → LastsTo o (p + n) → 0 < n → IsOpen o p
open_from_lasts None p n h lt = tt
open_from_lasts (Some e) p n h lt = omega arith

pub lasts_less : (o : Option ℕ) (p q : ℕ) → LastsTo o q → p ≤ q → LastsTo o p
lasts_less None p q h le = tt
lasts_less (Some e) p q h le = omega arith

pub goes_from : (lim : Limits) (st mid want : State) (b : List ℕ) → Goes st mid → Goes (run lim mid b) want → Goes (run lim st b) want
goes_from lim st mid want b (inl e) (inl g) = inl (ap (λ (z : State). run lim z b) e ∙ g)
goes_from lim st mid want b (inl e) (inr g) = inr (rw e g)
goes_from lim st mid want b (inr h) g = inr (let r = run_stopped lim st.top st.below st.offset st.mode b h in rw r h)

pub goes_then : (lim : Limits) (st mid want : State) (a b : List ℕ) → Goes (run lim st a) mid → Goes (run lim mid b) want → Goes (run lim st (a ++ b)) want
goes_then lim st mid want a b g h = rw (run_append lim st a b) (goes_from lim (run lim st a) mid want b g h)

-- a header, byte by byte

headed_last : (x : Broken) (f : Scope) (fs : List Scope) (p start : ℕ) (t : List ℕ) (h : Header) → is_whole (layout f.syntax) t ≡ true → header_at (layout f.syntax) t ≡ h → Goes (headed_by x f fs p start t) (take_header p f fs h)
headed_last (Some x) f fs p start t h w e = inr tt
headed_last None f fs p start t h w e = inl (rw (w, e) refl)

headed_on : (x : Broken) (f : Scope) (fs : List Scope) (p start : ℕ) (t : List ℕ) → is_whole (layout f.syntax) t ≡ false → Goes (headed_by x f fs p start t) (at f fs p (Heading start t))
headed_on (Some x) f fs p start t w = inr tt
headed_on None f fs p start t w = inl (rw w refl)

pub heading_run : (lim : Limits) (f : Scope) (fs : List Scope) (p q start : ℕ) (t : List ℕ) (h : Header) (x : ℕ) (b : List ℕ) → SpellsHeader (layout f.syntax) h (t ++ x ∷ b) → q ≡ p + suc (length b)
    → Goes (run lim (at f fs p (Heading start t)) (x ∷ b)) (take_header q f fs h)
unfolding run headed
heading_run lim f fs p q start t h x [] e q-is =
    let q-one : p + 1 ≡ q = omega arith in
    subst (λ z. Goes (headed lim f fs (p + 1) start (t ++ x ∷ [])) (take_header z f fs h)) q-one
    (headed_last (broken lim (spot_of f fs start) (t ++ x ∷ [])) f fs (p + 1) start (t ++ x ∷ []) h (whole_spelled e) (read_spelled e))
heading_run lim f fs p q start t h x (y ∷ b) e q-is =
    let more : SpellsHeader (layout f.syntax) h ((t ++ x ∷ []) ++ y ∷ b) = rw append_assoc e in
    goes_from lim (headed lim f fs (p + 1) start (t ++ x ∷ [])) (at f fs (p + 1) (Heading start (t ++ x ∷ []))) (take_header q f fs h) (y ∷ b)
    (headed_on (broken lim (spot_of f fs start) (t ++ x ∷ [])) f fs (p + 1) start (t ++ x ∷ []) (front_spelled (t ++ x ∷ []) y b more))
    (heading_run lim f fs (p + 1) q start (t ++ x ∷ []) h y b more (omega arith))

due_on : (x : Broken) (f : Scope) (fs : List Scope) (p : ℕ) → Goes (due_by x f fs p) (at f fs p (Heading p []))
due_on None f fs p = inl refl
due_on (Some x) f fs p = inr tt

header_on : (lim : Limits) (f : Scope) (fs : List Scope) (p q : ℕ) (h : Header) (hb : List ℕ) → SpellsHeader (layout f.syntax) h hb → 8 ≤ length hb → q ≡ p + length hb
    → Goes (run lim (at f fs p (Heading p [])) hb) (take_header q f fs h)
header_on lim f fs p q h [] e le q-is = absurd (omega arith)
header_on lim f fs p q h (x ∷ hb) e le q-is = heading_run lim f fs p q p [] h x hb e q-is

pub header_run : (lim : Limits) (f : Scope) (fs : List Scope) (p q : ℕ) (h : Header) (hb : List ℕ) → SpellsHeader (layout f.syntax) h hb → IsOpen f.stop p → q ≡ p + length hb
    → Goes (run lim (arrive p f fs) hb) (take_header q f fs h)
unfolding due
header_run lim f fs p q h hb e room q-is =
    rw (arrive_open p f fs room)
    (goes_from lim (due f fs p) (at f fs p (Heading p [])) (take_header q f fs h) hb (due_on (broken_due (spot_of f fs p)) f fs p)
    (header_on lim f fs p q h hb e (spelled_long e) q-is))

-- a value

pub reading_run : (lim : Limits) (f : Scope) (fs : List Scope) (t : Tag) (p q n : ℕ) (v : List ℕ) → length v ≡ n → 0 < n → q ≡ p + n → run lim (at f fs p (Reading t n)) v ≡ arrive q f fs
unfolding run read
reading_run lim f fs t p q n [] e lt q-is = absurd (omega arith)
reading_run lim f fs t p q n (x ∷ []) e lt q-is = let le : nat_le n 1 ≡ true = le-leb n 1 (omega arith) in let q-one : p + 1 ≡ q = omega arith in rw (le, q-one) refl
reading_run lim f fs t p q n (x ∷ y ∷ v) e lt q-is =
    let le : nat_le n 1 ≡ false = grind (arith, nat_tests) in
    rw le (reading_run lim f fs t (p + 1) q (n - 1) (y ∷ v) (omega arith) (omega arith) (omega arith))

pub value_on : (lim : Limits) (f : Scope) (fs : List Scope) (t : Tag) (p q n : ℕ) (v : List ℕ) (zero : Bool) → nat_eq n 0 ≡ zero → length v ≡ n → q ≡ p + n → run lim (begin_value p f fs t n) v ≡ arrive q f fs
unfolding begin_value run
value_on lim f fs t p q n [] true z e q-is = let q-same : p ≡ q = omega (arith, eqb-true n 0 z) in rw (z, q-same) refl
value_on lim f fs t p q n (x ∷ v) true z e q-is = absurd (omega (arith, eqb-true n 0 z))
value_on lim f fs t p q n v false z e q-is = rw z (reading_run lim f fs t p q n v e (omega (arith, false-eqb n 0 (sym z))) q-is)

-- a delimitation

mark_header : Tag → Header
mark_header t = record { tag = t; vr = None; length = 0 }

-- the tag of a delimitation
abbrev pub IsMark : Tag → Type 0
IsMark t = IsTag t × ((s : Coding) → is_plain (layout s) t ≡ true) × ((p : ℕ) (f g : Scope) (gs : List Scope) → take_header p f (g ∷ gs) (record { tag = t; vr = None; length = 0 }) ≡ arrive p g gs)

pub sequence_end_mark : IsMark sequence_end_tag
unfolding take_header leave
sequence_end_mark = ((lit< tt, lit< tt), elim [ Implicit ↦ refl | Explicit ↦ refl | Encapsulated ↦ refl | Fragments ↦ refl ], λ p f g gs. refl)

pub item_end_mark : IsMark item_end_tag
unfolding take_header leave
item_end_mark = ((lit< tt, lit< tt), elim [ Implicit ↦ refl | Explicit ↦ refl | Encapsulated ↦ refl | Fragments ↦ refl ], λ p f g gs. refl)

pub mark_run : (lim : Limits) (t : Tag) (mark : IsMark t) (f g : Scope) (gs : List Scope) (p q : ℕ) → IsOpen f.stop p → q ≡ p + 8
    → Goes (run lim (arrive p f (g ∷ gs)) (delimitation t)) (arrive q g gs)
mark_run lim t mark f g gs p q room q-is =
    subst (λ z. Goes (run lim (arrive p f (g ∷ gs)) (delimitation t)) z) (mark.2 q f g gs)
    (header_run lim f (g ∷ gs) p q (record { tag = t; vr = None; length = 0 }) (delimitation t) (plain t 0 mark.0 (mark.1 f.syntax) (lit< tt)) room q-is)

-- a level, after its header: what stands in it, and its end

-- the machine goes over b between these two scopes, wherever they stop
abbrev pub RunsIn : Limits → (Option ℕ → Scope) → (Option ℕ → Scope) → Scope → List Scope → ℕ → List ℕ → Type 0
RunsIn lim g0 g1 f fs p b = (stop : Option ℕ) → LastsTo stop (p + length b) → Goes (run lim (arrive p (g0 stop) (f ∷ fs)) b) (arrive (p + length b) (g1 stop) (f ∷ fs))

counted_on : (lim : Limits) (g0 g1 : Option ℕ → Scope) (f : Scope) (fs : List Scope) (p q n : ℕ) (b : List ℕ) (zero : Bool) → nat_eq n 0 ≡ zero → ((stop : Option ℕ) → (g1 stop).stop ≡ stop) → RunsIn lim g0 g1 f fs p b
    → n ≢ undefined_length → length b ≡ n → q ≡ p + n → Goes (run lim (begin_level p (g0 (stop_of p n)) f fs n) b) (arrive q f fs)
unfolding begin_level run
counted_on lim g0 g1 f fs p q n [] true z stops in-it defined size q-is = let q-same : p ≡ q = omega (arith, eqb-true n 0 z) in rw (z, q-same) (inl refl)
counted_on lim g0 g1 f fs p q n (x ∷ b) true z stops in-it defined size q-is = absurd (omega (arith, eqb-true n 0 z))
counted_on lim g0 g1 f fs p q n b false z stops in-it defined size q-is =
    let is-defined : is_undefined n ≡ false = ne_eqb n undefined_length defined in
    let q-same : p + n ≡ q = omega arith in
    let room : LastsTo (Some (p + n)) (p + length b) = omega arith in
    let ends : p + length b ≡ p + n = omega arith in
    rw (z, is-defined) (subst (λ z. Goes (run lim (arrive p (g0 (Some (p + n))) (f ∷ fs)) b) z) (ap (λ m. arrive m (g1 (Some (p + n))) (f ∷ fs)) ends ∙ arrive_stopped (p + n) (g1 (Some (p + n))) f fs (stops (Some (p + n))) ∙ ap (λ m. arrive m f fs) q-same)
    (in-it (Some (p + n)) room))

pub level_run : {t : Tag} {n : ℕ} {b c : List ℕ} (lim : Limits) (g0 g1 : Option ℕ → Scope) (f : Scope) (fs : List Scope) (p q : ℕ) → Ended t n b c → IsMark t → ((stop : Option ℕ) → (g1 stop).stop ≡ stop) → RunsIn lim g0 g1 f fs p b
    → q ≡ p + length c → Goes (run lim (begin_level p (g0 (stop_of p n)) f fs n) c) (arrive q f fs)
unfolding begin_level
level_run lim g0 g1 f fs p q (counted {b = b} n defined even size) mark stops in-it q-is =
    counted_on lim g0 g1 f fs p q n b (nat_eq n 0) refl stops in-it defined size (omega arith)
level_run {t} lim g0 g1 f fs p q (delimited {b = b}) mark stops in-it q-is =
    goes_then lim (arrive p (g0 None) (f ∷ fs)) (arrive (p + length b) (g1 None) (f ∷ fs)) (arrive q f fs) b (delimitation t) (in-it None tt)
    (mark_run lim t mark (g1 None) f fs (p + length b) q (subst (λ o. IsOpen o (p + length b)) (sym (stops None)) tt) (omega (arith, length-append b (delimitation t))))

-- the header and the value of an element, after which the rest of the data set stands

abbrev pub RunsSet : Limits → Coding → ℕ → ℕ → List ℕ → Type 0
RunsSet lim s last end b = (stop : Option ℕ) (fs : List Scope) (p q : ℕ) → LastsTo stop q → q ≡ p + length b → Goes (run lim (arrive p (set_scope s stop last) fs) b) (arrive q (set_scope s stop end) fs)

abbrev pub RunsItems : Limits → Coding → List ℕ → Type 0
RunsItems lim s b = (stop : Option ℕ) (fs : List Scope) (p q : ℕ) → LastsTo stop q → q ≡ p + length b → Goes (run lim (arrive p (sequence_scope s stop) fs) b) (arrive q (sequence_scope s stop) fs)

pub consumed_value : (p : ℕ) (s : Coding) (stop : Option ℕ) (last : ℕ) (fs : List Scope) (h : Header) → is_marker h.tag ≡ false → shape s h ≡ Value
    → take_header p (set_scope s stop last) fs h ≡ begin_value p (set_scope s stop (number h.tag)) fs h.tag h.length
unfolding take_header
consumed_value p s stop last fs h m e = rw (m, e) refl

pub consumed_sequence : (p : ℕ) (s : Coding) (stop : Option ℕ) (last : ℕ) (fs : List Scope) (h : Header) (inner : Coding) → is_marker h.tag ≡ false → shape s h ≡ Sequence inner
    → take_header p (set_scope s stop last) fs h ≡ begin_level p (sequence_scope inner (stop_of p h.length)) (set_scope s stop (number h.tag)) fs h.length
unfolding take_header
consumed_sequence p s stop last fs h inner m e = rw (m, e) refl

pub consumed_item : (p : ℕ) (f : Scope) (fs : List Scope) (h : Header) → h.tag ≡ item_tag → has_fragments f.syntax ≡ false → take_header p f fs h ≡ begin_level p (set_scope f.syntax (stop_of p h.length) 0) f fs h.length
unfolding take_header
consumed_item p f fs h e n = rw (e, n) refl

pub consumed_fragment : (p : ℕ) (f : Scope) (fs : List Scope) (h : Header) → h.tag ≡ item_tag → has_fragments f.syntax ≡ true → take_header p f fs h ≡ begin_value p f fs h.tag h.length
unfolding take_header
consumed_fragment p f fs h e n = rw (e, n) refl

value_step : (lim : Limits) (s : Coding) (last : ℕ) (h : Header) (hb v b : List ℕ) (end : ℕ) → IsElement s last h hb → shape s h ≡ Value → IsValue h.length v → RunsSet lim s (number h.tag) end b → RunsSet lim s last end (hb ++ (v ++ b))
value_step lim s last h hb v b end el sh val rest stop fs p q room q-is =
    let size : q ≡ p + length hb + length v + length b = omega (arith, length-append hb (v ++ b), length-append v b) in
    let long = spelled_long el.spelled in
    let first : Goes (run lim (arrive p (set_scope s stop last) fs) hb) (begin_value (p + length hb) (set_scope s stop (number h.tag)) fs h.tag h.length) =
    subst (λ z. Goes (run lim (arrive p (set_scope s stop last) fs) hb) z) (consumed_value (p + length hb) s stop last fs h el.no_marker sh)
    (header_run lim (set_scope s stop last) fs p (p + length hb) h hb el.spelled (open_from_lasts stop p (length hb) (lasts_less stop (p + length hb) q room (omega arith)) (omega arith)) refl) in
    let second : Goes (run lim (begin_value (p + length hb) (set_scope s stop (number h.tag)) fs h.tag h.length) v) (arrive (p + length hb + length v) (set_scope s stop (number h.tag)) fs) =
    inl (value_on lim (set_scope s stop (number h.tag)) fs h.tag (p + length hb) (p + length hb + length v) h.length v (nat_eq h.length 0) refl val.size (omega (arith, val.size))) in
    goes_then lim _ _ _ hb (v ++ b) first (goes_then lim _ _ _ v b second (rest stop fs (p + length hb + length v) q room size))

sequence_step : (lim : Limits) (s : Coding) (last : ℕ) (h : Header) (hb ib cb b : List ℕ) (inner : Coding) (end : ℕ) → IsElement s last h hb → shape s h ≡ Sequence inner → Ended sequence_end_tag h.length ib cb
    → RunsItems lim inner ib → RunsSet lim s (number h.tag) end b → RunsSet lim s last end (hb ++ (cb ++ b))
sequence_step lim s last h hb ib cb b inner end el sh closed items rest stop fs p q room q-is =
    let size : q ≡ p + length hb + length cb + length b = omega (arith, length-append hb (cb ++ b), length-append cb b) in
    let long = spelled_long el.spelled in
    let f : Scope = set_scope s stop (number h.tag) in
    let first : Goes (run lim (arrive p (set_scope s stop last) fs) hb) (begin_level (p + length hb) (sequence_scope inner (stop_of (p + length hb) h.length)) f fs h.length) =
    subst (λ z. Goes (run lim (arrive p (set_scope s stop last) fs) hb) z) (consumed_sequence (p + length hb) s stop last fs h inner el.no_marker sh)
    (header_run lim (set_scope s stop last) fs p (p + length hb) h hb el.spelled (open_from_lasts stop p (length hb) (lasts_less stop (p + length hb) q room (omega arith)) (omega arith)) refl) in
    let second : Goes (run lim (begin_level (p + length hb) (sequence_scope inner (stop_of (p + length hb) h.length)) f fs h.length) cb) (arrive (p + length hb + length cb) f fs) =
    level_run lim (sequence_scope inner) (sequence_scope inner) f fs (p + length hb) (p + length hb + length cb) closed sequence_end_mark (λ o. refl) (λ o holds. items o (f ∷ fs) (p + length hb) (p + length hb + length ib) holds refl) refl in
    goes_then lim _ _ _ hb (cb ++ b) first (goes_then lim _ _ _ cb b second (rest stop fs (p + length hb + length cb) q room size))

item_step : (lim : Limits) (s : Coding) (h : Header) (hb eb cb b : List ℕ) (end : ℕ) → IsItem s h hb → Ended item_end_tag h.length eb cb
    → RunsSet lim s 0 end eb → RunsItems lim s b → RunsItems lim s (hb ++ (cb ++ b))
item_step lim s h hb eb cb b end it closed elements rest stop fs p q room q-is =
    let size : q ≡ p + length hb + length cb + length b = omega (arith, length-append hb (cb ++ b), length-append cb b) in
    let long = spelled_long it.spelled in
    let f : Scope = sequence_scope s stop in
    let first : Goes (run lim (arrive p f fs) hb) (begin_level (p + length hb) (set_scope s (stop_of (p + length hb) h.length) 0) f fs h.length) =
    subst (λ z. Goes (run lim (arrive p f fs) hb) z) (consumed_item (p + length hb) f fs h it.tagged it.nests)
    (header_run lim f fs p (p + length hb) h hb it.spelled (open_from_lasts stop p (length hb) (lasts_less stop (p + length hb) q room (omega arith)) (omega arith)) refl) in
    let second : Goes (run lim (begin_level (p + length hb) (set_scope s (stop_of (p + length hb) h.length) 0) f fs h.length) cb) (arrive (p + length hb + length cb) f fs) =
    level_run lim (λ o. set_scope s o 0) (λ o. set_scope s o end) f fs (p + length hb) (p + length hb + length cb) closed item_end_mark (λ o. refl) (λ o holds. elements o (f ∷ fs) (p + length hb) (p + length hb + length eb) holds refl) refl in
    goes_then lim _ _ _ hb (cb ++ b) first (goes_then lim _ _ _ cb b second (rest stop fs (p + length hb + length cb) q room size))

fragment_step : (lim : Limits) (s : Coding) (h : Header) (hb v b : List ℕ) → IsFragmentItem s h hb → IsValue h.length v → RunsItems lim s b → RunsItems lim s (hb ++ (v ++ b))
fragment_step lim s h hb v b it val rest stop fs p q room q-is =
    let size : q ≡ p + length hb + length v + length b = omega (arith, length-append hb (v ++ b), length-append v b) in
    let long = spelled_long it.spelled in
    let first : Goes (run lim (arrive p (sequence_scope s stop) fs) hb) (begin_value (p + length hb) (sequence_scope s stop) fs h.tag h.length) =
    subst (λ z. Goes (run lim (arrive p (sequence_scope s stop) fs) hb) z) (consumed_fragment (p + length hb) (sequence_scope s stop) fs h it.tagged it.holds)
    (header_run lim (sequence_scope s stop) fs p (p + length hb) h hb it.spelled (open_from_lasts stop p (length hb) (lasts_less stop (p + length hb) q room (omega arith)) (omega arith)) refl) in
    let second : Goes (run lim (begin_value (p + length hb) (sequence_scope s stop) fs h.tag h.length) v) (arrive (p + length hb + length v) (sequence_scope s stop) fs) =
    inl (value_on lim (sequence_scope s stop) fs h.tag (p + length hb) (p + length hb + length v) h.length v (nat_eq h.length 0) refl val.size (omega (arith, val.size))) in
    goes_then lim _ _ _ hb (v ++ b) first (goes_then lim _ _ _ v b second (rest stop fs (p + length hb + length v) q room size))

nothing_run : (lim : Limits) (s : Coding) (last : ℕ) → RunsSet lim s last last []
unfolding run
nothing_run lim s last stop fs p q room q-is = let same : p ≡ q = omega arith in inl (rw same refl)

no_items_run : (lim : Limits) (s : Coding) → RunsItems lim s []
unfolding run
no_items_run lim s stop fs p q room q-is = let same : p ≡ q = omega arith in inl (rw same refl)

-- the machine goes over what is spelled, or stops
mutual
  pub elements_run : (lim : Limits) {s : Coding} {last : ℕ} {es : Elements} {b : List ℕ} → DataSet s last es b → RunsSet lim s last (last_of last es) b
  elements_run lim nothing = nothing_run lim _ _
  elements_run lim (value_then {s = s} {last = last} {h = h} {hb = hb} {v = v} {es = es} {b = b} el sh val rest) = value_step lim s last h hb v b (last_of (number h.tag) es) el sh val (elements_run lim rest)
  elements_run lim (sequence_then {s = s} {last = last} {h = h} {hb = hb} {inner = inner} {ib = ib} {cb = cb} {es = es} {b = b} el sh items closed rest) = sequence_step lim s last h hb ib cb b inner (last_of (number h.tag) es) el sh closed (items_run lim items) (elements_run lim rest)

  pub items_run : (lim : Limits) {s : Coding} {is : Items} {b : List ℕ} → ItemList s is b → RunsItems lim s b
  items_run lim no_more = no_items_run lim _
  items_run lim (item_then {s = s} {h = h} {hb = hb} {es = es} {eb = eb} {cb = cb} {b = b} it elements closed rest) = item_step lim s h hb eb cb b (last_of 0 es) it closed (elements_run lim elements) (items_run lim rest)
  items_run lim (fragment_then {s = s} {h = h} {hb = hb} {v = v} {b = b} it val rest) = fragment_step lim s h hb v b it val (items_run lim rest)
