-- After a header that breaks no rule the machine stands (`header_stands`): in a value, a sequence or an item, or after a
-- level. Stands on HeaderDue, HeaderParts, NestedLevels, ReachedLevels, SoundHeader and GrammarLeads/TreesRun.
use Rattle.std.proofs.Common.{◌≡◌, ℕ, suc, ◌+◌, ◌≤◌, ◌≢◌, ◌⊎◌, Bool, true, false, not, ◌&&◌, ◌||◌, List, [], ◌∷◌, ◌++◌, length, Option, Some, None, nat_eq, nat_le, refl, sym, ap, subst, ◌∙◌, inl, inr, arith, append-nil, eqb-true, false-eqb, eq-eqb, ne_eqb, if◌then◌else◌, codes, leb-false, ltb-false}
use Rattle.sequence.specs.declared.coding.Coding.{Coding}
use Rattle.sequence.specs.declared.coding.Coding.TheVariants.{Implicit, Explicit, Encapsulated, Fragments}
use Rattle.element.specs.declared.tag.Tag.{Tag}
use Rattle.element.specs.declared.header.Header.{Header}
use Rattle.element.specs.Header.{number, is_marker, SpellsHeader, item_tag, item_end_tag, sequence_end_tag}
use Rattle.dictionary.specs.Tags.{vr_of}
use Rattle.sequence.specs.declared.level.Scope.{Scope}
use Rattle.sequence.specs.declared.wanted.Want.{Want}
use Rattle.sequence.specs.declared.shape.Shape.{Shape}
use Rattle.sequence.specs.declared.shape.Shape.TheVariants.{Value, Sequence, NotAllowed}
use Rattle.sequence.specs.Shape.{is_undefined, undefined_length, shape, shape_by, implicit_shape, is_vr, is_pixel_data}
use Rattle.sequence.specs.Tree.{delimitation, no_elements, value, sequence, no_items, item, fragment, IsEven, IsElement, IsItem, IsFragmentItem, IsValue, counted, DataSet, nothing, value_then, sequence_then, ItemList, no_more, item_then, fragment_then}
use Rattle.sequence.specs.Wanted.{Values, room_of}
use Rattle.sequence.specs.Rules.{Limits, broken_tag, same_tag, is_not_allowed, is_value, is_sequence, passes, counted_length}
use Rattle.sequence.specs.machine.Machine.{set_scope, sequence_scope, Reading, at, spot_of, is_none, is_empty, stop_of, arrive, begin_value, begin_level, leave, take_header}
use Rattle.sequence.specs.machine.Keeping.{with_value, keep_header}
use Rattle.sequence.specs.machine.Standing.{IsLength, IsFit, Reaches, at_root, into_sequence, into_item, AreLevels, BeginsIn, an_element, a_fragment, Stands}
use Rattle.sequence.specs.Holding.{started_in}
use Rattle.sequence.specs.Coding.{layout, has_fragments}
use Rattle.sequence.proofs.MachineStands.HeaderParts.{mark_spelled}
use Rattle.sequence.proofs.GrammarLeads.TreesRun.{consumed_value, consumed_sequence, consumed_item, consumed_fragment}
use Rattle.sequence.proofs.MachineStands.SoundHeader.{and_false, element_tag, item_end_is, in_sequence_is, IsSound, sound_length, sound_mark, sound_fragment, marker_opens}
use Rattle.sequence.proofs.MachineStands.ReachedLevels.{more_value, more_sequence, more_items, level_ends}
use Rattle.sequence.proofs.MachineStands.NestedLevels.{levels_end, IsConsumed, consumed, levels_open, levels_read}
use Rattle.sequence.proofs.MachineStands.HeaderDue.{arrive_stands, same_consumed}

-- a header made whole

explicit_by : (a b u : Bool) → (if a then Sequence Explicit else (if u then (if b then Sequence Implicit else NotAllowed) else Value)) ≡ Value → u ≡ true → ⊥
explicit_by true b u e h = cc
explicit_by false true true e h = cc
explicit_by false false true e h = cc
explicit_by false b false e h = cc

known_by : (a u : Bool) → (if a then Sequence Implicit else (if u then NotAllowed else Value)) ≡ Value → u ≡ true → ⊥
known_by true u e h = cc
known_by false true e h = cc
known_by false false e h = cc

unknown_by : (u : Bool) → (if u then Sequence Implicit else Value) ≡ Value → u ≡ true → ⊥
unknown_by true e h = cc
unknown_by false e h = cc

implicit_by : (k : Option (List ℕ)) (u : Bool) → implicit_shape k u ≡ Value → u ≡ true → ⊥
implicit_by None u e h = unknown_by u e h
implicit_by (Some v) u e h = known_by (is_vr (codes "SQ") v) u e h

encapsulated_by : (a b p u : Bool) → (if a then Sequence Encapsulated else (if u && p then Sequence Fragments else (if a then Sequence Explicit else (if u then (if b then Sequence Implicit else NotAllowed) else Value)))) ≡ Value → u ≡ true → ⊥
encapsulated_by true b p u e h = cc
encapsulated_by false b true true e h = cc
encapsulated_by false true false true e h = cc
encapsulated_by false false false true e h = cc
encapsulated_by false b p false e h = cc

value_by : (s : Coding) (t : Tag) (v k : Option (List ℕ)) (u : Bool) → shape_by s t v k u ≡ Value → u ≡ true → ⊥
value_by Explicit t (Some v) k u e h = explicit_by (is_vr (codes "SQ") v) (is_vr (codes "UN") v) u e h
value_by Explicit t None k u e h = cc
value_by Encapsulated t (Some v) k u e h = encapsulated_by (is_vr (codes "SQ") v) (is_vr (codes "UN") v) (is_pixel_data t && (is_vr (codes "OB") v || is_vr (codes "OW") v)) u e h
value_by Encapsulated t None k u e h = cc
value_by Fragments t v k u e h = cc
value_by Implicit t v k u e h = implicit_by k u e h

-- a value has a defined length
value_defined : (s : Coding) (h : Header) → shape s h ≡ Value → h.length ≢ undefined_length
value_defined s h e same = value_by s h.tag h.vr (vr_of h.tag) (is_undefined h.length) e (eq-eqb h.length undefined_length same)

-- so its length counts
pub value_counts : (s : Coding) (h : Header) → Value ≡ shape s h → counted_length h.length ≡ h.length
value_counts s h e = by (is_undefined h.length) (ne_eqb h.length undefined_length (value_defined s h (sym e)))
  where
    by : (u : Bool) → u ≡ false → (if u then 0 else h.length) ≡ h.length
    by true e = absurd cc
    by false e = refl

value_stands : {s s1 : Coding} {values : Values} {stop : Option ℕ} {last : ℕ} {fs : List Scope} {b hb : List ℕ} {h : Header} (lim : Limits) (p : ℕ) → p ≡ length (b ++ hb) → Reaches s lim.wanted values (set_scope s1 stop last) fs b → IsElement s1 last h hb → shape s1 h ≡ Value → IsEven h.length
    → IsFit lim.wanted fs (number h.tag) h.length → IsConsumed lim (set_scope s1 stop (number h.tag)) fs p h
    → Stands s lim (begin_value p (set_scope s1 stop (number h.tag)) fs h.tag h.length) (with_value lim fs (number h.tag) [] values) (b ++ hb)
unfolding begin_value
value_stands {s = s} {s1 = s1} {values = values} {stop = stop} {last = last} {fs = fs} {b = b} {hb = hb} {h = h} lim p p-is r el sh even fits t = by (nat_eq h.length 0) refl
  where
    by : (zero : Bool) → nat_eq h.length 0 ≡ zero → Stands s lim (if zero then arrive p (set_scope s1 stop (number h.tag)) fs else at (set_scope s1 stop (number h.tag)) fs p (Reading h.tag h.length)) (with_value lim fs (number h.tag) [] values) (b ++ hb)
    by true z =
        let none : h.length ≡ 0 = eqb-true h.length 0 z in
        let val : IsValue h.length [] = record { even = even; size = sym none } in
        let text : DataSet s1 last (value h [] no_elements) (hb ++ ([] ++ [])) = value_then el sh val nothing in
        arrive_stands lim p p-is (subst (λ z. Reaches s lim.wanted (with_value lim fs (number h.tag) [] values) (set_scope s1 stop (number h.tag)) fs (b ++ z)) (append-nil hb) (more_value lim h [] r text (sym none) fits)) t.levels
    by false z = (
      p-is,
      record {
        before = b;
        whole = values;
        round = set_scope s1 stop last;
        h = h;
        hb = hb;
        v = [];
        reaches = r;
        levels = subst (λ z. AreLevels lim (set_scope s1 stop (number h.tag)) fs (z + h.length)) p-is (levels_read lim (set_scope s1 stop (number h.tag)) fs p h t (value_defined s1 h sh));
        top = let m = el.no_marker in rw m refl;
        begins = an_element refl el sh fits;
        even = even;
        size = omega arith;
        more = omega (arith, false-eqb h.length 0 (sym z));
        tagged = refl;
        text = ap (λ z. b ++ z) (sym (append-nil hb));
        kept = refl;
      },
    )

-- the level that a header opens
abbrev IsDeep : Limits → List Scope → Header → Type 0
IsDeep lim fs h = h.length ≢ 0 → suc (length fs) ≤ lim.depth

sequence_stands : {s s1 : Coding} {values : Values} {stop : Option ℕ} {last : ℕ} {fs : List Scope} {b hb : List ℕ} {h : Header} {inner : Coding} (lim : Limits) (p : ℕ) → p ≡ length (b ++ hb) → Reaches s lim.wanted values (set_scope s1 stop last) fs b → IsElement s1 last h hb → shape s1 h ≡ Sequence inner → IsLength h.length
    → IsDeep lim fs h → IsConsumed lim (set_scope s1 stop (number h.tag)) fs p h
    → Stands s lim (begin_level p (sequence_scope inner (stop_of p h.length)) (set_scope s1 stop (number h.tag)) fs h.length) values (b ++ hb)
unfolding begin_level
sequence_stands {s = s} {s1 = s1} {values = values} {stop = stop} {last = last} {fs = fs} {b = b} {hb = hb} {h = h} {inner = inner} lim p p-is r el sh len deep t = by (nat_eq h.length 0) refl
  where
    by : (zero : Bool) → nat_eq h.length 0 ≡ zero → Stands s lim (if zero then arrive p (set_scope s1 stop (number h.tag)) fs else arrive p (sequence_scope inner (stop_of p h.length)) (set_scope s1 stop (number h.tag) ∷ fs)) values (b ++ hb)
    by true z =
        let none : h.length ≡ 0 = eqb-true h.length 0 z in
        let defined : h.length ≢ undefined_length = λ same. absurd (omega arith) in
        let text : DataSet s1 last (sequence h no_items no_elements) (hb ++ ([] ++ [])) = sequence_then el sh no_more (counted h.length defined (len defined) (sym none)) nothing in
        arrive_stands lim p p-is (subst (λ z. Reaches s lim.wanted values (set_scope s1 stop (number h.tag)) fs (b ++ z)) (append-nil hb) (more_sequence h no_items r text)) t.levels
    by false z =
        let some = false-eqb h.length 0 (sym z) in
        arrive_stands lim p p-is (into_sequence r el sh len some no_more (ap (λ z. stop_of z h.length) p-is) refl (ap (λ z. b ++ z) (sym (append-nil hb))))
        (levels_open lim (set_scope s1 stop (number h.tag)) (sequence_scope inner (stop_of p h.length)) fs p h t refl (deep some))

item_stands : {s s1 : Coding} {values : Values} {stop : Option ℕ} {fs : List Scope} {b hb : List ℕ} {h : Header} (lim : Limits) (p : ℕ) → p ≡ length (b ++ hb) → Reaches s lim.wanted values (sequence_scope s1 stop) fs b → IsItem s1 h hb → IsLength h.length
    → IsDeep lim fs h → IsConsumed lim (sequence_scope s1 stop) fs p h
    → Stands s lim (begin_level p (set_scope s1 (stop_of p h.length) 0) (sequence_scope s1 stop) fs h.length) values (b ++ hb)
unfolding begin_level
item_stands {s = s} {s1 = s1} {values = values} {stop = stop} {fs = fs} {b = b} {hb = hb} {h = h} lim p p-is r it len deep t = by (nat_eq h.length 0) refl
  where
    by : (zero : Bool) → nat_eq h.length 0 ≡ zero → Stands s lim (if zero then arrive p (sequence_scope s1 stop) fs else arrive p (set_scope s1 (stop_of p h.length) 0) (sequence_scope s1 stop ∷ fs)) values (b ++ hb)
    by true z =
        let none : h.length ≡ 0 = eqb-true h.length 0 z in
        let defined : h.length ≢ undefined_length = λ same. absurd (omega arith) in
        let text : ItemList s1 (item h no_elements no_items) (hb ++ ([] ++ [])) = item_then it nothing (counted h.length defined (len defined) (sym none)) no_more in
        arrive_stands lim p p-is (subst (λ z. Reaches s lim.wanted values (sequence_scope s1 stop) fs (b ++ z)) (append-nil hb) (more_items r text)) t.levels
    by false z =
        let some = false-eqb h.length 0 (sym z) in
        arrive_stands lim p p-is (into_item r it len some nothing (ap (λ z. stop_of z h.length) p-is) refl (ap (λ z. b ++ z) (sym (append-nil hb))))
        (levels_open lim (sequence_scope s1 stop) (set_scope s1 (stop_of p h.length) 0) fs p h t refl (deep some))

-- outside the data set itself no value is kept
pub inside_kept : {s : Coding} {ws : List Want} {values : Values} {f : Scope} {fs : List Scope} {b : List ℕ} (lim : Limits) (t : ℕ) (v : List ℕ) (kept : Values) → Reaches s ws values f fs b → f.in_sequence ≡ true → with_value lim fs t v kept ≡ kept
inside_kept lim t v kept (at_root d e k fits) here = absurd cc
inside_kept lim t v kept (into_sequence r el sh len some items stop-is k-is b-is) here = refl
inside_kept lim t v kept (into_item r it len some set stop-is last-is b-is) here = absurd cc

started_fragment : (g : Scope) (h : Header) → is_marker h.tag ≡ true → started_in g h ≡ g
started_fragment g h m = ap (λ z. if z then g else record g { last = number h.tag }) m

started_element : (g : Scope) (h : Header) → is_marker h.tag ≡ false → g.in_sequence ≡ false → started_in g h ≡ set_scope g.syntax g.stop (number h.tag)
started_element g h m e = ap (λ z. if z then g else record g { last = number h.tag }) m ∙ (λ i. record { in_sequence = e i; syntax = g.syntax; stop = g.stop; last = number h.tag })

fragment_stands : {s s1 : Coding} {values : Values} {stop : Option ℕ} {fs : List Scope} {b hb : List ℕ} {h : Header} (lim : Limits) (p : ℕ) → p ≡ length (b ++ hb) → Reaches s lim.wanted values (sequence_scope s1 stop) fs b → IsFragmentItem s1 h hb → IsEven h.length
    → IsConsumed lim (sequence_scope s1 stop) fs p h
    → Stands s lim (begin_value p (sequence_scope s1 stop) fs h.tag h.length) values (b ++ hb)
unfolding begin_value
fragment_stands {s = s} {s1 = s1} {values = values} {stop = stop} {fs = fs} {b = b} {hb = hb} {h = h} lim p p-is r it even t = by (nat_eq h.length 0) refl
  where
    by : (zero : Bool) → nat_eq h.length 0 ≡ zero → Stands s lim (if zero then arrive p (sequence_scope s1 stop) fs else at (sequence_scope s1 stop) fs p (Reading h.tag h.length)) values (b ++ hb)
    by true z =
        let none : h.length ≡ 0 = eqb-true h.length 0 z in
        let val : IsValue h.length [] = record { even = even; size = sym none } in
        let text : ItemList s1 (fragment h [] no_items) (hb ++ ([] ++ [])) = fragment_then it val no_more in
        arrive_stands lim p p-is (subst (λ z. Reaches s lim.wanted values (sequence_scope s1 stop) fs (b ++ z)) (append-nil hb) (more_items r text)) t.levels
    by false z = (
      p-is,
      record {
        before = b;
        whole = values;
        round = sequence_scope s1 stop;
        h = h;
        hb = hb;
        v = [];
        reaches = r;
        levels = subst (λ z. AreLevels lim (sequence_scope s1 stop) fs (z + h.length)) p-is (levels_read lim (sequence_scope s1 stop) fs p h t it.defined);
        top = sym (started_fragment (sequence_scope s1 stop) h (ap (λ z. is_marker z) it.tagged));
        begins = a_fragment refl it;
        even = even;
        size = omega arith;
        more = omega (arith, false-eqb h.length 0 (sym z));
        tagged = refl;
        text = ap (λ z. b ++ z) (sym (append-nil hb));
        kept = sym (inside_kept lim (number h.tag) [] values r refl);
      },
    )

end_stands : {s : Coding} {values : Values} {f g : Scope} {gs : List Scope} {b hb : List ℕ} {h : Header} (lim : Limits) (p : ℕ) (t : Tag) → p ≡ length (b ++ hb) → Reaches s lim.wanted values f (g ∷ gs) b → SpellsHeader (layout f.syntax) h hb → h.tag ≡ t → is_marker t ≡ true → h.length ≡ 0
    → t ≡ (if f.in_sequence then sequence_end_tag else item_end_tag) → f.stop ≡ None → AreLevels lim f (g ∷ gs) p → Stands s lim (arrive p g gs) values (b ++ hb)
end_stands {s = s} {f = f} {g = g} {gs = gs} {b = b} {hb = hb} lim p t p-is r e same m none which open-ended l =
    arrive_stands lim p p-is (level_ends hb r (inr (open-ended, mark_spelled t e same m none ∙ ap (λ z. delimitation z) which))) (levels_end lim f g gs p l)

consumed_sequence_end : (p : ℕ) (f g : Scope) (gs : List Scope) (h : Header) → h.tag ≡ sequence_end_tag → take_header p f (g ∷ gs) h ≡ arrive p g gs
unfolding take_header leave
consumed_sequence_end p f g gs h e = rw e refl

consumed_item_end : (p : ℕ) (f g : Scope) (gs : List Scope) (h : Header) → h.tag ≡ item_end_tag → take_header p f (g ∷ gs) h ≡ arrive p g gs
unfolding take_header leave
consumed_item_end p f g gs h e = rw e refl

pub set_of : (f : Scope) → f.in_sequence ≡ false → f ≡ set_scope f.syntax f.stop f.last
set_of f e = λ i. record { in_sequence = e i; syntax = f.syntax; stop = f.stop; last = f.last }

pub sequence_of : {s : Coding} {ws : List Want} {values : Values} {f : Scope} {fs : List Scope} {b : List ℕ} → Reaches s ws values f fs b → f.in_sequence ≡ true → f ≡ sequence_scope f.syntax f.stop
sequence_of (at_root d e k fits) h = absurd cc
sequence_of (into_sequence r el sh len some items stop-is k-is b-is) h = refl
sequence_of (into_item r it len some set stop-is last-is b-is) h = absurd cc

-- a value or a fragment is whole
pub started_ends : {s : Coding} {whole : Values} {fs : List Scope} {before : List ℕ} (lim : Limits) (g : Scope) (h : Header) (hb v : List ℕ) → Reaches s lim.wanted whole g fs before → BeginsIn lim.wanted g fs h hb → IsEven h.length → length v ≡ h.length
    → Reaches s lim.wanted (with_value lim fs (number h.tag) v whole) (started_in g h) fs (before ++ (hb ++ v))
started_ends {s = s} {whole = whole} {fs = fs} {before = before} lim g h hb v r (an_element here el sh fits) even size =
    let val : IsValue h.length v = record { even = even; size = size } in
    let text : DataSet g.syntax g.last (value h v no_elements) (hb ++ (v ++ [])) = value_then el sh val nothing in
    let r2 : Reaches s lim.wanted whole (set_scope g.syntax g.stop g.last) fs before = subst (λ z. Reaches s lim.wanted whole z fs before) (set_of g here) r in
    subst (λ z. Reaches s lim.wanted (with_value lim fs (number h.tag) v whole) z fs (before ++ (hb ++ v))) (sym (started_element g h el.no_marker here))
    (subst (λ z. Reaches s lim.wanted (with_value lim fs (number h.tag) v whole) (set_scope g.syntax g.stop (number h.tag)) fs (before ++ (hb ++ z))) (append-nil v) (more_value lim h v r2 text size fits))
started_ends {s = s} {whole = whole} {fs = fs} {before = before} lim g h hb v r (a_fragment here it) even size =
    let val : IsValue h.length v = record { even = even; size = size } in
    let text : ItemList g.syntax (fragment h v no_items) (hb ++ (v ++ [])) = fragment_then it val no_more in
    let is = sequence_of r here in
    let r2 : Reaches s lim.wanted whole (sequence_scope g.syntax g.stop) fs before = subst (λ z. Reaches s lim.wanted whole z fs before) is r in
    let more : Reaches s lim.wanted whole (sequence_scope g.syntax g.stop) fs (before ++ (hb ++ v)) = subst (λ z. Reaches s lim.wanted whole (sequence_scope g.syntax g.stop) fs (before ++ (hb ++ z))) (append-nil v) (more_items r2 text) in
    subst (λ z. Reaches s lim.wanted z (started_in g h) fs (before ++ (hb ++ v))) (sym (inside_kept lim (number h.tag) v whole r here))
    (subst (λ z. Reaches s lim.wanted whole z fs (before ++ (hb ++ v))) (is-sequence is) more)
  where
    is-sequence : g ≡ sequence_scope g.syntax g.stop → sequence_scope g.syntax g.stop ≡ started_in g h
    is-sequence is = sym is ∙ sym (started_fragment g h (ap (λ z. is_marker z) it.tagged))

open_none : (o : Option ℕ) (rest : Bool) → (is_none o && rest) ≡ true → o ≡ None
open_none None rest e = refl
open_none (Some x) rest e = absurd cc

-- no level round it: no delimitation is due
no_end : (o : Option ℕ) → (is_none o && not (is_empty [])) ≡ true → ⊥
no_end None e = cc
no_end (Some x) e = cc

end_case : {s : Coding} {values : Values} (f : Scope) (fs : List Scope) {b hb : List ℕ} {h : Header} (lim : Limits) (p : ℕ) (t : Tag) → p ≡ length (b ++ hb) → Reaches s lim.wanted values f fs b → SpellsHeader (layout f.syntax) h hb → h.tag ≡ t → is_marker t ≡ true → h.length ≡ 0
    → t ≡ (if f.in_sequence then sequence_end_tag else item_end_tag) → (is_none f.stop && not (is_empty fs)) ≡ true → ((g : Scope) (gs : List Scope) → take_header p f (g ∷ gs) h ≡ arrive p g gs) → AreLevels lim f fs p → Stands s lim (take_header p f fs h) values (b ++ hb)
end_case f [] lim p t p-is r e same m none which open-ended consumed l = absurd (no_end f.stop open-ended)
end_case f (g ∷ gs) lim p t p-is r e same m none which open-ended consumed l =
    rw (consumed g gs) (end_stands lim p t p-is r e same m none which (open_none f.stop (not (is_empty (g ∷ gs))) open-ended) l)

kept_value : (lim : Limits) (f : Scope) (fs : List Scope) (h : Header) (values : Values) → is_marker h.tag ≡ false → shape f.syntax h ≡ Value → keep_header lim f fs h values ≡ with_value lim fs (number h.tag) [] values
unfolding keep_header
kept_value lim f fs h values m sh = rw (m, sh) refl

kept_sequence : (lim : Limits) (f : Scope) (fs : List Scope) (h : Header) (inner : Coding) (values : Values) → is_marker h.tag ≡ false → shape f.syntax h ≡ Sequence inner → keep_header lim f fs h values ≡ values
unfolding keep_header
kept_sequence lim f fs h inner values m sh = rw (m, sh) refl

kept_marker : (lim : Limits) (f : Scope) (fs : List Scope) (h : Header) (values : Values) → is_marker h.tag ≡ true → keep_header lim f fs h values ≡ values
unfolding keep_header
kept_marker lim f fs h values m = rw m refl

fits_by : (ws : List Want) (fs : List Scope) (h : Header) (near : Option ℕ) (a m v : Bool) → is_marker h.tag ≡ m → m ≡ false → v ≡ true → nat_eq (length fs) 0 ≡ a → (((a && not m) && v) && passes (room_of ws (number h.tag)) h.length) ≡ false → IsFit ws fs (number h.tag) h.length
fits_by ws [] h near false m v m-is m-no v-is a-is e = absurd cc
fits_by ws [] h near true m v m-is m-no v-is a-is e = λ room is. ltb-false room h.length (let k : passes (room_of ws (number h.tag)) h.length ≡ false = rw (m-no, v-is) at e in ap (λ z. passes z h.length) (sym is) ∙ k)
fits_by ws (f ∷ fs) h near a m v m-is m-no v-is a-is e = tt

deep_by : (lim : Limits) (fs : List Scope) (h : Header) (o : Bool) → o ≡ true → ((o && not (nat_eq h.length 0)) && nat_le lim.depth (length fs)) ≡ false → IsDeep lim fs h
deep_by lim fs h false is e some = absurd cc
deep_by lim fs h true is e some =
    let n : nat_eq h.length 0 ≡ false = ne_eqb h.length 0 some in
    let k : nat_le lim.depth (length fs) ≡ false = rw n at e in
    let lt = leb-false lim.depth (length fs) k in
    omega (arith, lt)

element_case : {s : Coding} {values : Values} (f : Scope) (fs : List Scope) {b hb : List ℕ} (h : Header) (lim : Limits) (p : ℕ) → p ≡ length (b ++ hb) → Reaches s lim.wanted values (set_scope f.syntax f.stop f.last) fs b → IsElement f.syntax f.last h hb → IsLength h.length
    → IsSound lim (spot_of f fs (length b)) (length hb) h → IsConsumed lim f fs p h → (sh : Shape) → shape f.syntax h ≡ sh → Stands s lim (take_header p (set_scope f.syntax f.stop f.last) fs h) (keep_header lim (set_scope f.syntax f.stop f.last) fs h values) (b ++ hb)
element_case {values = values} f fs {b = b} {hb = hb} h lim p p-is r el len sound t Value sh =
    rw (consumed_value p f.syntax f.stop f.last fs h el.no_marker sh, kept_value lim (set_scope f.syntax f.stop f.last) fs h values el.no_marker sh)
    (value_stands lim p p-is r el sh (len (value_defined f.syntax h sh)) (fits_by lim.wanted fs h None (nat_eq (length fs) 0) (is_marker h.tag) (is_value (shape f.syntax h)) refl el.no_marker (ap is_value sh) refl sound.fits) (same_consumed (set_scope f.syntax f.stop (number h.tag)) refl t))
element_case {values = values} f fs h lim p p-is r el len sound t (Sequence inner) sh =
    rw (consumed_sequence p f.syntax f.stop f.last fs h inner el.no_marker sh, kept_sequence lim (set_scope f.syntax f.stop f.last) fs h inner values el.no_marker sh)
    (sequence_stands lim p p-is r el sh len (deep_by lim fs h ((is_marker h.tag && not (has_fragments f.syntax)) || is_sequence (shape f.syntax h)) (ap (λ z. (z && not (has_fragments f.syntax)) || is_sequence (shape f.syntax h)) el.no_marker ∙ ap is_sequence sh) sound.shallow) (same_consumed (set_scope f.syntax f.stop (number h.tag)) refl t))
element_case f fs h lim p p-is r el len sound t NotAllowed sh =
    absurd (let k : is_not_allowed (shape f.syntax h) ≡ false = and_false (not (is_marker h.tag)) (is_not_allowed (shape f.syntax h)) sound.allowed (ap not el.no_marker) in let g : true ≡ false = sym (ap is_not_allowed sh) ∙ k in cc)

pub header_stands : {s : Coding} {values : Values} (f : Scope) (fs : List Scope) {b : List ℕ} (hb : List ℕ) (h : Header) (lim : Limits) (p : ℕ) → p ≡ length (b ++ hb) → Reaches s lim.wanted values f fs b → SpellsHeader (layout f.syntax) h hb
    → broken_tag (spot_of f fs (length b)) h.tag ≡ None → IsSound lim (spot_of f fs (length b)) (length hb) h → IsConsumed lim f fs p h → Stands s lim (take_header p f fs h) (keep_header lim f fs h values) (b ++ hb)
header_stands {s = s} {values = values} f fs {b = b} hb h lim p p-is r sp tag-ok sound t = by f.in_sequence refl (is_marker h.tag) refl
  where
    an_end : (u : Tag) → h.tag ≡ u → is_marker u ≡ true → same_tag u item_tag ≡ false → u ≡ (if f.in_sequence then sequence_end_tag else item_end_tag) → (is_none f.stop && not (is_empty fs)) ≡ true → ((g : Scope) (gs : List Scope) → take_header p f (g ∷ gs) h ≡ arrive p g gs) → Stands s lim (take_header p f fs h) (keep_header lim f fs h values) (b ++ hb)
    an_end u same m other which open-ended gone =
        rw (kept_marker lim f fs h values (ap (λ z. is_marker z) same ∙ m))
        (end_case f fs lim p u p-is r sp same m (sound_mark lim (spot_of f fs (length b)) (length hb) h sound (ap (λ z. is_marker z) same ∙ m) (ap (λ z. same_tag z item_tag) same ∙ other)) which open-ended gone t.levels)

    an_item : h.tag ≡ item_tag → f.in_sequence ≡ true → (k : Bool) → has_fragments f.syntax ≡ k → Stands s lim (take_header p f fs h) (keep_header lim f fs h values) (b ++ hb)
    an_item same here false nests =
        rw (consumed_item p f fs h same nests, kept_marker lim f fs h values (ap (λ z. is_marker z) same)) (let is = sequence_of r here in let r2 : Reaches s lim.wanted values (sequence_scope f.syntax f.stop) fs b = subst (λ z. Reaches s lim.wanted values z fs b) is r in
        subst (λ z. Stands s lim (begin_level p (set_scope f.syntax (stop_of p h.length) 0) z fs h.length) values (b ++ hb)) (sym is)
        (item_stands lim p p-is r2 (record { spelled = sp; tagged = same; nests = nests }) (sound_length lim (spot_of f fs (length b)) (length hb) h sound)
        (deep_by lim fs h _ (marker_opens (spot_of f fs (length b)) h (ap (λ z. is_marker z) same) nests) sound.shallow) (same_consumed (sequence_scope f.syntax f.stop) refl t)))
    an_item same here true holds =
        rw (consumed_fragment p f fs h same holds, kept_marker lim f fs h values (ap (λ z. is_marker z) same)) (let is = sequence_of r here in let r2 : Reaches s lim.wanted values (sequence_scope f.syntax f.stop) fs b = subst (λ z. Reaches s lim.wanted values z fs b) is r in
        let counted = sound_fragment lim (spot_of f fs (length b)) (length hb) h sound (ap (λ z. is_marker z) same) holds in
        let defined : h.length ≢ undefined_length = λ e. absurd (let k : true ≡ false = sym (eq-eqb h.length undefined_length e) ∙ counted in cc) in
        subst (λ z. Stands s lim (begin_value p z fs h.tag h.length) values (b ++ hb)) (sym is)
        (fragment_stands lim p p-is r2 (record { spelled = sp; tagged = same; holds = holds; defined = defined }) (sound_length lim (spot_of f fs (length b)) (length hb) h sound defined) (same_consumed (sequence_scope f.syntax f.stop) refl t)))

    items : (h.tag ≡ item_tag) ⊎ ((h.tag ≡ sequence_end_tag) × ((is_none f.stop && not (is_empty fs)) ≡ true)) → f.in_sequence ≡ true → Stands s lim (take_header p f fs h) (keep_header lim f fs h values) (b ++ hb)
    items (inl same) here = an_item same here (has_fragments f.syntax) refl
    items (inr both) here = an_end sequence_end_tag both.0 refl refl (rw here refl) both.1 (λ g gs. consumed_sequence_end p f g gs h both.0)

    by : (q : Bool) → f.in_sequence ≡ q → (m : Bool) → is_marker h.tag ≡ m → Stands s lim (take_header p f fs h) (keep_header lim f fs h values) (b ++ hb)
    by true here m marked = items (in_sequence_is (spot_of f fs (length b)) h.tag tag-ok here) here
    by false here true marked = let both = item_end_is (spot_of f fs (length b)) h.tag tag-ok here marked in an_end item_end_tag both.0 refl refl (rw here refl) both.1 (λ g gs. consumed_item_end p f g gs h both.0)
    by false here false marked =
        let is = set_of f here in
        let r2 : Reaches s lim.wanted values (set_scope f.syntax f.stop f.last) fs b = subst (λ z. Reaches s lim.wanted values z fs b) is r in
        let u = element_tag (spot_of f fs (length b)) h.tag tag-ok here marked in
        subst (λ z. Stands s lim (take_header p z fs h) (keep_header lim z fs h values) (b ++ hb)) (sym is)
        (element_case f fs h lim p p-is r2 (record { spelled = sp; rising = u.0; no_marker = marked; no_command = u.1; no_file = u.2 }) (sound_length lim (spot_of f fs (length b)) (length hb) h sound) sound t (shape f.syntax h) refl)
