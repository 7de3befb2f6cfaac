-- The code's state after a header is consumed is the machine's (`value_header`, `sequence_header`, `item_header`,
-- `mark_header`), with what is kept (`keep_value` and others). Stands on InnermostLevel, MachineStands and the laws of
-- `element`.
use Rattle.std.proofs.Common.{◌≡◌, ℕ, ◌+◌, ◌-◌, ◌<◌, ◌≤◌, Bool, true, false, not, ◌&&◌, List, [], ◌∷◌, ◌++◌, length, Some, None, refl, sym, ap, ◌∙◌, inl, inr, ◌⊎◌, arith, nat_lt, nat_eq, eq-eqb, ne_eqb, ltb-false, if◌then◌else◌}
use Rattle.sequence.specs.Coding.{layout, has_fragments}
use Rattle.sequence.specs.declared.coding.Coding.{Coding}
use Rattle.element.specs.declared.header.Header.{Header}
use Rattle.element.specs.Header.{number, is_marker, header_at, is_whole, item_tag, sequence_end_tag}
use Rattle.element.proofs.Public.{tag_read, whole_eight}
use Rattle.sequence.specs.declared.level.Scope.{Scope}
use Rattle.sequence.specs.declared.level.Level.{Level}
use Rattle.sequence.specs.declared.spot.Spot.{Spot}
use Rattle.sequence.specs.declared.wanted.Want.{Want}
use Rattle.sequence.specs.declared.stage.Stage.{Stage}
use Rattle.sequence.specs.declared.shape.Shape.{Shape}
use Rattle.sequence.specs.declared.shape.Shape.TheVariants.{Value, Sequence, NotAllowed}
use Rattle.sequence.specs.Shape.{is_undefined, shape}
use Rattle.sequence.specs.Wanted.{Values}
use Rattle.sequence.specs.Rules.{Limits, Broken, broken_due, broken_tag, broken, same_tag, counted_length, is_value, passes}
use Rattle.sequence.specs.machine.Machine.{at, arrive, due, due_by, spot_of, Heading, stop_of, set_scope, sequence_scope, begin_level, begin_value, leave, started, take_element, take_item, take_header}
use Rattle.sequence.specs.machine.Scopes.{top_of, below_of}
use Rattle.sequence.specs.machine.Keeping.{keep_shaped, keep_header, wanted_at, with_value}
use Rattle.sequence.specs.machine.Spare.{stage_by}
use Rattle.sequence.specs.machine.State.{mode_of, has_room, fits_wanted}
use Rattle.sequence.specs.Wanted.{is_wanted, room_of}
use Rattle.sequence.proofs.CodeIsMachine.InnermostLevel.{below_empty}
use Rattle.sequence.proofs.MachineStands.SoundHeader.{is_sound, sound_fragment, element_tag, in_sequence_is}
use Rattle.sequence.proofs.MachineStands.UnbrokenHeader.{unbroken_is}

not_true : (a : Bool) → not a ≡ true → a ≡ false
not_true true e = absurd cc
not_true false e = refl

due_is : (f : Scope) (fs : List Scope) (offset : ℕ) (x : Broken) → at f fs offset (mode_of (stage_by x offset) offset []) ≡ due_by x f fs offset
due_is f fs offset None = ap (λ n. at f fs offset (Heading n [])) same
  where
    same : offset - 0 ≡ offset
    same = omega arith
due_is f fs offset (Some x) = refl

pub arrived : (root : Scope) (old new : List Level) (offset : ℕ) (spot : Spot) (x : Broken) (stage : Stage) (header : List ℕ) → arrive offset (top_of root old) (below_of root [] old) ≡ due (top_of root new) (below_of root [] new) offset
    → spot ≡ spot_of (top_of root new) (below_of root [] new) offset → x ≡ broken_due spot → stage ≡ stage_by x offset → header ≡ []
    → at (top_of root new) (below_of root [] new) offset (mode_of stage offset header) ≡ arrive offset (top_of root old) (below_of root [] old)
unfolding due
arrived root old new offset spot x stage header e spot-is x-is stage-is header-is =
    let y : x ≡ broken_due (spot_of (top_of root new) (below_of root [] new) offset) = x-is ∙ ap broken_due spot-is in
    ap (λ z. at (top_of root new) (below_of root [] new) offset (mode_of z offset header)) stage-is
    ∙ ap (λ z. at (top_of root new) (below_of root [] new) offset (mode_of (stage_by x offset) offset z)) header-is
    ∙ due_is (top_of root new) (below_of root [] new) offset x
    ∙ ap (λ z. due_by z (top_of root new) (below_of root [] new) offset) y
    ∙ sym e

if_true : {A : Type 0} (b : Bool) (x y : A) → b ≡ true → (if b then x else y) ≡ x
if_true true x y e = refl
if_true false x y e = absurd cc

if_false : {A : Type 0} (b : Bool) (x y : A) → b ≡ false → (if b then x else y) ≡ y
if_false true x y e = absurd cc
if_false false x y e = refl

pub item_header : (p : ℕ) (f : Scope) (fs : List Scope) (h : Header) → is_marker h.tag ≡ true → same_tag h.tag item_tag ≡ true → take_item p f fs h ≡ take_header p f fs h
unfolding take_header
item_header p f fs h m t = sym (if_true (is_marker h.tag) _ _ m ∙ if_true (same_tag h.tag item_tag) _ _ t)

pub item_level : (p : ℕ) (f : Scope) (fs : List Scope) (h : Header) (coding : Coding) (g : Scope) → coding ≡ f.syntax → has_fragments coding ≡ false → g ≡ set_scope coding (stop_of p h.length) 0 → begin_level p g f fs h.length ≡ take_item p f fs h
item_level p f fs h coding g same nests g-is =
    ap (λ z. begin_level p z f fs h.length) (g-is ∙ ap (λ z. set_scope z (stop_of p h.length) 0) same)
    ∙ sym (if_false (has_fragments f.syntax) _ _ (ap has_fragments (sym same) ∙ nests))

pub item_bytes : (p : ℕ) (f : Scope) (fs : List Scope) (h : Header) (coding : Coding) → coding ≡ f.syntax → has_fragments coding ≡ true → begin_value p f fs h.tag h.length ≡ take_item p f fs h
item_bytes p f fs h coding same holds = sym (if_true (has_fragments f.syntax) _ _ (ap has_fragments (sym same) ∙ holds))

-- where no level is open, the innermost one is the data set itself
pub top_none : (root : Scope) (levels : List Level) → length levels ≡ 0 → top_of root levels ≡ root
top_none root [] none = refl
top_none root (l ∷ levels) none = absurd (omega (arith, none))

-- the data set itself holds no fragments
pub fragments_inside : (root : Scope) (levels : List Level) → has_fragments root.syntax ≡ false → has_fragments (top_of root levels).syntax ≡ true → 0 < length levels
fragments_inside root [] no-fragments holds = absurd (let k : true ≡ false = sym holds ∙ no-fragments in cc)
fragments_inside root (l ∷ levels) no-fragments holds = omega arith

pub inside_value : (lim : Limits) (root : Scope) (levels : List Level) (t : ℕ) (values : Values) → 0 < length levels → with_value lim (below_of root [] levels) t [] values ≡ values
inside_value lim root levels t values some = ap (λ z. if z && is_wanted lim.wanted t then values ++ (t, []) ∷ [] else values) (below_empty root levels ∙ none levels some)
  where
    none : (ls : List Level) → 0 < length ls → nat_eq (length ls) 0 ≡ false
    none ls lt = ne_eqb (length ls) 0 (λ e. absurd (omega (arith, lt, e)))

pub mark_header : (p : ℕ) (f : Scope) (fs : List Scope) (h : Header) → is_marker h.tag ≡ true → same_tag h.tag item_tag ≡ false → leave p f fs ≡ take_header p f fs h
unfolding take_header
mark_header p f fs h m t = sym (if_true (is_marker h.tag) _ _ m ∙ if_false (same_tag h.tag item_tag) _ _ t)

element_header : (p : ℕ) (f : Scope) (fs : List Scope) (h : Header) (top : Scope) (sh : Shape) → is_marker h.tag ≡ false → sh ≡ shape top.syntax h → top ≡ f → take_element p f fs h sh ≡ take_header p f fs h
unfolding take_header
element_header p f fs h top sh m sh-is top-is = ap (λ z. take_element p f fs h z) (sh-is ∙ ap (λ z. shape z.syntax h) top-is) ∙ sym (if_false (is_marker h.tag) _ _ m)

pub value_header : (p : ℕ) (f : Scope) (fs : List Scope) (h : Header) (top f2 : Scope) (fs2 : List Scope) → is_marker h.tag ≡ false → Value ≡ shape top.syntax h → top ≡ f → f2 ≡ started f h.tag → fs2 ≡ fs
    → begin_value p f2 fs2 h.tag h.length ≡ take_header p f fs h
value_header p f fs h top f2 fs2 m sh top-is f-is fs-is = ap (λ z. begin_value p z fs2 h.tag h.length) f-is ∙ ap (λ z. begin_value p (started f h.tag) z h.tag h.length) fs-is ∙ element_header p f fs h top Value m sh top-is

pub sequence_header : (p : ℕ) (f : Scope) (fs : List Scope) (h : Header) (top f2 g : Scope) (fs2 : List Scope) (inner : Coding) → is_marker h.tag ≡ false → Sequence inner ≡ shape top.syntax h → top ≡ f → f2 ≡ started f h.tag → fs2 ≡ fs
    → g ≡ sequence_scope inner (stop_of p h.length) → begin_level p g f2 fs2 h.length ≡ take_header p f fs h
sequence_header p f fs h top f2 g fs2 inner m sh top-is f-is fs-is g-is =
    ap (λ z. begin_level p z f2 fs2 h.length) g-is ∙ ap (λ z. begin_level p (sequence_scope inner (stop_of p h.length)) z fs2 h.length) f-is ∙ ap (λ z. begin_level p (sequence_scope inner (stop_of p h.length)) (started f h.tag) z h.length) fs-is
    ∙ element_header p f fs h top (Sequence inner) m sh top-is

pub no_header : (p : ℕ) (f : Scope) (fs : List Scope) (h : Header) (top : Scope) → is_marker h.tag ≡ false → NotAllowed ≡ shape top.syntax h → top ≡ f → arrive p f fs ≡ take_header p f fs h
no_header p f fs h top m sh top-is = element_header p f fs h top NotAllowed m sh top-is

-- a byte of a header

pub within_limit : (lim : Limits) (spot : Spot) (t : List ℕ) → broken lim spot t ≡ None → is_whole (layout spot.syntax) t ≡ true → spot.offset + length t + counted_length (header_at (layout spot.syntax) t).length ≤ lim.bytes
within_limit lim spot t ok w = ltb-false _ _ (is_sound lim spot (length t) (header_at (layout spot.syntax) t) ((unbroken_is lim spot t ok).whole_ok w)).short

pub has_room_remaining : (lim : Limits) (spot : Spot) (t : List ℕ) → broken lim spot t ≡ None → is_whole (layout spot.syntax) t ≡ true → has_room lim.depth spot.depth spot.syntax (header_at (layout spot.syntax) t) ≡ true
has_room_remaining lim spot t ok w = ap not (is_sound lim spot (length t) (header_at (layout spot.syntax) t) ((unbroken_is lim spot t ok).whole_ok w)).shallow

-- the length of a fragment is defined
pub defined_remaining : (lim : Limits) (spot : Spot) (t : List ℕ) → broken lim spot t ≡ None → is_whole (layout spot.syntax) t ≡ true → is_marker (header_at (layout spot.syntax) t).tag ≡ true → has_fragments spot.syntax ≡ true → is_undefined (header_at (layout spot.syntax) t).length ≡ false
defined_remaining lim spot t ok w = sound_fragment lim spot (length t) (header_at (layout spot.syntax) t) (is_sound lim spot (length t) (header_at (layout spot.syntax) t) ((unbroken_is lim spot t ok).whole_ok w))

-- an element's tag is above the last one
pub rises : (lim : Limits) (spot : Spot) (t : List ℕ) → broken lim spot t ≡ None → is_whole (layout spot.syntax) t ≡ true → is_marker (header_at (layout spot.syntax) t).tag ≡ false → spot.last < number (header_at (layout spot.syntax) t).tag
rises lim spot t ok w m = by spot.in_sequence refl
  where
    ok2 : broken_tag spot (header_at (layout spot.syntax) t).tag ≡ None
    ok2 = ap (broken_tag spot) (tag_read (layout spot.syntax) t) ∙ (unbroken_is lim spot t ok).tag_ok (let l = whole_eight (layout spot.syntax) t w in omega (arith, l))

    by : (q : Bool) → spot.in_sequence ≡ q → spot.last < number (header_at (layout spot.syntax) t).tag
    by true here = absurd (out (in_sequence_is spot (header_at (layout spot.syntax) t).tag ok2 here))
      where
        out : ((header_at (layout spot.syntax) t).tag ≡ item_tag) ⊎ (((header_at (layout spot.syntax) t).tag ≡ sequence_end_tag) × (spot.open_ended ≡ true)) → ⊥
        out (inl e) = let k : true ≡ false = sym (ap (λ z. is_marker z) e) ∙ m in cc
        out (inr e) = let k : true ≡ false = sym (ap (λ z. is_marker z) e.0) ∙ m in cc
    by false here = (element_tag spot (header_at (layout spot.syntax) t).tag ok2 here m).0

-- a wanted value has room, and an element's tag is above the last one
pub fits_remaining : (lim : Limits) (spot : Spot) (t : List ℕ) → broken lim spot t ≡ None → is_whole (layout spot.syntax) t ≡ true → fits_wanted lim.wanted spot.depth spot.syntax (header_at (layout spot.syntax) t) ≡ true
fits_remaining lim spot t ok w = ap not (is_sound lim spot (length t) (header_at (layout spot.syntax) t) ((unbroken_is lim spot t ok).whole_ok w)).fits

-- what is kept

pub wanted_is : (lim : Limits) (root : Scope) (levels : List Level) (t : ℕ) → (nat_eq (length levels) 0 && is_wanted lim.wanted t) ≡ wanted_at lim (below_of root [] levels) t
wanted_is lim root levels t = ap (λ z. z && is_wanted lim.wanted t) (sym (below_empty root levels))

pub kept_started : (lim : Limits) (root : Scope) (levels : List Level) (t u : ℕ) (values new : Values) → u ≡ t → new ≡ (if (nat_eq (length levels) 0 && is_wanted lim.wanted u) then values ++ (u, []) ∷ [] else values) → new ≡ with_value lim (below_of root [] levels) t [] values
kept_started lim root levels t u values new same e =
    e ∙ ap (λ z. if (nat_eq (length levels) 0 && is_wanted lim.wanted z) then values ++ (z, []) ∷ [] else values) same ∙ ap (λ z. if z then values ++ (t, []) ∷ [] else values) (wanted_is lim root levels t)

pub keep_marker : (lim : Limits) (f : Scope) (fs : List Scope) (h : Header) (values : Values) → is_marker h.tag ≡ true → values ≡ keep_header lim f fs h values
unfolding keep_header
keep_marker lim f fs h values m = rw m refl

keep_element : (lim : Limits) (f : Scope) (fs : List Scope) (h : Header) (top : Scope) (sh : Shape) (values : Values) → is_marker h.tag ≡ false → sh ≡ shape top.syntax h → top ≡ f → keep_shaped lim fs h sh values ≡ keep_header lim f fs h values
unfolding keep_header
keep_element lim f fs h top sh values m sh-is top-is = ap (λ z. keep_shaped lim fs h z values) (sh-is ∙ ap (λ z. shape z.syntax h) top-is) ∙ sym (if_false (is_marker h.tag) _ _ m)

pub keep_value : (lim : Limits) (f : Scope) (fs : List Scope) (h : Header) (top : Scope) (fs2 : List Scope) (values : Values) → is_marker h.tag ≡ false → Value ≡ shape top.syntax h → top ≡ f → fs2 ≡ fs → with_value lim fs2 (number h.tag) [] values ≡ keep_header lim f fs h values
keep_value lim f fs h top fs2 values m sh top-is fs-is = ap (λ z. with_value lim z (number h.tag) [] values) fs-is ∙ keep_element lim f fs h top Value values m sh top-is

pub keep_sequence : (lim : Limits) (f : Scope) (fs : List Scope) (h : Header) (top : Scope) (inner : Coding) (values : Values) → is_marker h.tag ≡ false → Sequence inner ≡ shape top.syntax h → top ≡ f → values ≡ keep_header lim f fs h values
keep_sequence lim f fs h top inner values m sh top-is = keep_element lim f fs h top (Sequence inner) values m sh top-is

pub keep_none : (lim : Limits) (f : Scope) (fs : List Scope) (h : Header) (top : Scope) (values : Values) → is_marker h.tag ≡ false → NotAllowed ≡ shape top.syntax h → top ≡ f → values ≡ keep_header lim f fs h values
keep_none lim f fs h top values m sh top-is = keep_element lim f fs h top NotAllowed values m sh top-is

-- a wanted value fits its room
pub fits_room : (ws : List Want) (depth : ℕ) (s : Coding) (h : Header) (room : ℕ) → fits_wanted ws depth s h ≡ true → depth ≡ 0 → is_marker h.tag ≡ false → Value ≡ shape s h → room_of ws (number h.tag) ≡ Some room → h.length ≤ room
fits_room ws depth s h room ok none m sh wanted = by ok
  where
    zero_depth : nat_eq depth 0 ≡ true
    zero_depth = eq-eqb depth 0 none

    by : fits_wanted ws depth s h ≡ true → h.length ≤ room
    by ok = ltb-false room h.length (not_true (nat_lt room h.length) (ap not (ap (λ z. z && nat_lt room h.length) (sym (ap (λ z. (z && not (is_marker h.tag)) && is_value (shape s h)) zero_depth ∙ ap (λ z. not z && is_value (shape s h)) m ∙ ap is_value (sym sh))) ∙ ap (λ z. ((nat_eq depth 0 && not (is_marker h.tag)) && is_value (shape s h)) && passes z h.length) (sym wanted)) ∙ ok))
