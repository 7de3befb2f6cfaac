-- A whole data set within its limits breaks no rule (`whole_breaks_no_rule`) and has no fault (`whole_has_no_fault`). Stands
-- on OffsetsInside, SoundHeaderPasses, GrammarLeads/TreesRun, MachineReports and MachineStands/ReachedLevels.
use Rattle.std.proofs.Common.{◌≡◌, ℕ, suc, ◌+◌, ◌<◌, ◌≤◌, ◌≢◌, Bool, true, false, not, ◌&&◌, ◌||◌, List, [], ◌∷◌, ◌++◌, length, Option, Some, None, nat_eq, nat_le, nat_lt, refl, sym, ap, subst, ◌∙◌, arith, append_assoc, append-nil, length-append, false-eqb, eqb-true, ne_eqb, lit<, if◌then◌else◌}
use Rattle.std.proofs.lemmas.Bool.Decides.{nat_tests}
use Rattle.sequence.specs.declared.coding.Coding.{Coding}
use Rattle.sequence.specs.declared.coding.Coding.TheVariants.{Implicit, Explicit, Encapsulated, Fragments}
use Rattle.sequence.specs.Coding.{has_fragments}
use Rattle.element.specs.declared.tag.Tag.{Tag}
use Rattle.element.specs.declared.header.Header.{Header}
use Rattle.element.specs.Header.{number, is_marker, plain, item_tag, item_end_tag, sequence_end_tag}
use Rattle.sequence.specs.declared.level.Scope.{Scope}
use Rattle.sequence.specs.declared.wanted.Want.{Want}
use Rattle.sequence.specs.declared.shape.Shape.TheVariants.{Value, Sequence}
use Rattle.sequence.specs.Shape.{is_undefined, undefined_length, shape}
use Rattle.sequence.specs.Tree.{delimitation, Elements, no_elements, value, sequence, Items, no_items, item, fragment, IsElement, IsItem, IsFragmentItem, IsValue, Ended, counted, delimited, DataSet, nothing, value_then, sequence_then, ItemList, no_more, item_then, fragment_then}
use Rattle.sequence.specs.Open.{last_of}
use Rattle.sequence.specs.Wanted.{room_of}
use Rattle.sequence.specs.Rules.{Limits, broken_tag, same_tag, passes, is_value, is_sequence, is_not_allowed, is_long_mark, is_too_long, counted_length}
use Rattle.sequence.specs.Ending.{IsWholeDataSet, breaks_rule, ends_early, WholeBreaksNoRule, WholeHasNoFault}
use Rattle.sequence.specs.machine.Machine.{set_scope, sequence_scope, spot_of, stop_of, State, at, Heading, start, due, arrive, begin_level, run}
use Rattle.sequence.specs.machine.Standing.{at_root, into_sequence, into_item, LastsTo, AllLastTo}
use Rattle.sequence.proofs.GrammarLeads.TreesRun.{HasStopped, run_append, arrive_stopped, value_on, IsMark, sequence_end_mark, item_end_mark, consumed_value, consumed_sequence, consumed_item, consumed_fragment}
use Rattle.sequence.proofs.MachineStands.ReachedLevels.{FitIn, more_elements, more_sequence, more_items}
use Rattle.sequence.proofs.MachineReports.FrontAtText.{less_all}
use Rattle.sequence.proofs.MachineReports.AnyText.{goes_unbroken}
use Rattle.sequence.proofs.WholeDataSet.SoundHeaderPasses.{else_none, HasRoom, keeps, header_goes}
use Rattle.sequence.proofs.WholeDataSet.OffsetsInside.{closed_is, opened_stays, IsShallow, IsBefore, deep_at, ends_within, inside, behind}

-- one run after another
then_run : (lim : Limits) (st mid want : State) (a b : List ℕ) → run lim st a ≡ mid → run lim mid b ≡ want → run lim st (a ++ b) ≡ want
then_run lim st mid want a b e g = run_append lim st a b ∙ ap (λ z. run lim z b) e ∙ g

-- tags that are in place

element_tagged : (s : Coding) (stop : Option ℕ) (last p : ℕ) (fs : List Scope) (h : Header) (hb : List ℕ) → IsElement s last h hb → broken_tag (spot_of (set_scope s stop last) fs p) h.tag ≡ None
unfolding broken_tag
element_tagged s stop last p fs h hb el = else_none (is_marker h.tag) _ _ el.no_marker (else_none (nat_eq h.tag.0 0 || nat_eq h.tag.0 2) _ _ groups (else_none (nat_le (number h.tag) last) _ _ (rises el.rising) refl))
  where
    groups : (nat_eq h.tag.0 0 || nat_eq h.tag.0 2) ≡ false
    groups = ap (λ z. z || nat_eq h.tag.0 2) (ne_eqb h.tag.0 0 el.no_command) ∙ ne_eqb h.tag.0 2 el.no_file

    rises : last < number h.tag → nat_le (number h.tag) last ≡ false
    rises lt = grind (arith, nat_tests)

item_tagged : (s : Coding) (stop : Option ℕ) (p : ℕ) (fs : List Scope) (t : Tag) → t ≡ item_tag → broken_tag (spot_of (sequence_scope s stop) fs p) t ≡ None
unfolding broken_tag
item_tagged s stop p fs t e = ap (broken_tag (spot_of (sequence_scope s stop) fs p)) e

sequence_end_tagged : (s : Coding) (p : ℕ) (f : Scope) (fs : List Scope) → broken_tag (spot_of (sequence_scope s None) (f ∷ fs) p) sequence_end_tag ≡ None
unfolding broken_tag
sequence_end_tagged s p f fs = refl

item_end_tagged : (s : Coding) (last p : ℕ) (f : Scope) (fs : List Scope) → broken_tag (spot_of (set_scope s None last) (f ∷ fs) p) item_end_tag ≡ None
unfolding broken_tag
item_end_tagged s last p f fs = refl

-- lengths that are in place

and_false : (a : Bool) → (a && false) ≡ false
and_false true = refl
and_false false = refl

no_mark : (h : Header) → is_marker h.tag ≡ false → is_long_mark h ≡ false
no_mark h m = ap (λ z. (z && not (same_tag h.tag item_tag)) && not (nat_eq h.length 0)) m

-- a level that the header opens has room
opens_room : (a : Bool) (n : ℕ) (lim : Limits) (fs : List Scope) → (n ≢ 0 → suc (length fs) ≤ lim.depth) → ((a && not (nat_eq n 0)) && nat_le lim.depth (length fs)) ≡ false
opens_room a n lim fs deep = by (nat_eq n 0) refl
  where
    less : suc (length fs) ≤ lim.depth → nat_le lim.depth (length fs) ≡ false
    less le = grind (arith, nat_tests)

    by : (z : Bool) → nat_eq n 0 ≡ z → ((a && not z) && nat_le lim.depth (length fs)) ≡ false
    by true e = ap (λ z. z && nat_le lim.depth (length fs)) (and_false a)
    by false e = ap (λ z. (a && true) && z) (less (deep (false-eqb n 0 (sym e)))) ∙ and_false (a && true)

counted_less : (n k : ℕ) → n ≤ k → counted_length n ≤ k
counted_less n k le = by (is_undefined n)
  where
    by : (u : Bool) → (if u then 0 else n) ≤ k
    by true = omega arith
    by false = le

-- a wanted value has room
fits_room : (lim : Limits) (s : Coding) (stop : Option ℕ) (last p : ℕ) (fs : List Scope) (h : Header) (v : List ℕ) (es : Elements) → length v ≡ h.length → FitIn lim.wanted fs (value h v es) → is_too_long lim (spot_of (set_scope s stop last) fs p) h ≡ false
fits_room lim s stop last p (f ∷ fs) h v es size fit = ap (λ z. ((z && not (is_marker h.tag)) && is_value (shape s h)) && passes (room_of lim.wanted (number h.tag)) h.length) (ne_eqb (suc (length fs)) 0 (omega arith))
fits_room lim s stop last p [] h v es size fit = ap (λ z. (not (is_marker h.tag) && is_value (shape s h)) && z) (by (room_of lim.wanted (number h.tag)) refl) ∙ and_false (not (is_marker h.tag) && is_value (shape s h))
  where
    less : (room : ℕ) → length v ≤ room → nat_lt room h.length ≡ false
    less room le = let k : h.length ≤ room = omega (arith, le, size) in grind (arith, nat_tests)

    by : (o : Option ℕ) → room_of lim.wanted (number h.tag) ≡ o → passes o h.length ≡ false
    by None e = refl
    by (Some room) e = less room (fit.0 room e)

fit_one : (ws : List Want) (fs : List Scope) (h : Header) (v : List ℕ) (es : Elements) → FitIn ws fs (value h v es) → FitIn ws fs (value h v no_elements)
fit_one ws [] h v es fit = (fit.0, tt)
fit_one ws (f ∷ fs) h v es fit = tt

fit_rest : (ws : List Want) (fs : List Scope) (h : Header) (v : List ℕ) (es : Elements) → FitIn ws fs (value h v es) → FitIn ws fs es
fit_rest ws [] h v es fit = fit.1
fit_rest ws (f ∷ fs) h v es fit = tt

fit_behind : (ws : List Want) (fs : List Scope) (h : Header) (is : Items) (es : Elements) → FitIn ws fs (sequence h is es) → FitIn ws fs es
fit_behind ws [] h is es fit = fit
fit_behind ws (f ∷ fs) h is es fit = tt

-- a level, after its header

mark_goes : (lim : Limits) (t : Tag) (mark : IsMark t) (g f : Scope) (fs : List Scope) (p q : ℕ) → broken_tag (spot_of g (f ∷ fs) p) t ≡ None → is_marker t ≡ true → g.stop ≡ None → AllLastTo (f ∷ fs) q → q ≤ lim.bytes → q ≡ p + 8
    → run lim (arrive p g (f ∷ fs)) (delimitation t) ≡ arrive q f fs
mark_goes lim t mark g f fs p q tagged marked none hold short q-is =
    let h : Header = record { tag = t; vr = None; length = 0 } in
    let all : AllLastTo (g ∷ f ∷ fs) q = (subst (λ o. LastsTo o q) (sym none) tt, hold) in
    let room : HasRoom lim g (f ∷ fs) p q 8 (record { tag = t; vr = None; length = 0 }) = record { hold = all; short = short; counts = omega (arith, q-is); even = λ d. refl } in
    let ok = keeps lim g (f ∷ fs) p q 8 (record { tag = t; vr = None; length = 0 }) room tagged (and_false (is_marker t && not (same_tag t item_tag))) (ap (λ z. not z && is_not_allowed (shape g.syntax (record { tag = t; vr = None; length = 0 }))) marked)
    (and_false (is_marker t && has_fragments g.syntax))
    (ap (λ z. ((nat_eq (length (f ∷ fs)) 0 && not z) && is_value (shape g.syntax (record { tag = t; vr = None; length = 0 }))) && passes (room_of lim.wanted (number t)) 0) marked ∙ ap (λ z. (z && is_value (shape g.syntax (record { tag = t; vr = None; length = 0 }))) && passes (room_of lim.wanted (number t)) 0) (and_false (nat_eq (length (f ∷ fs)) 0)))
    (opens_room ((is_marker t && not (has_fragments g.syntax)) || is_sequence (shape g.syntax (record { tag = t; vr = None; length = 0 }))) 0 lim (f ∷ fs) (λ some. absurd (some refl))) in
    header_goes lim g (f ∷ fs) p q (record { tag = t; vr = None; length = 0 }) (delimitation t) (plain t 0 mark.0 (mark.1 g.syntax) (lit< tt)) ok (subst (λ o. LastsTo o (p + 8)) (sym none) tt) q-is ∙ mark.2 q g f fs

counted_goes : (lim : Limits) (g0 g1 : Option ℕ → Scope) (f : Scope) (fs : List Scope) (p q n : ℕ) (b : List ℕ) (none : Bool) → nat_eq n 0 ≡ none → ((stop : Option ℕ) → (g1 stop).stop ≡ stop) → n ≢ undefined_length → length b ≡ n → q ≡ p + n
    → (n ≢ 0 → run lim (arrive p (g0 (stop_of p n)) (f ∷ fs)) b ≡ arrive (p + length b) (g1 (stop_of p n)) (f ∷ fs)) → run lim (begin_level p (g0 (stop_of p n)) f fs n) b ≡ arrive q f fs
unfolding begin_level run
counted_goes lim g0 g1 f fs p q n [] true z stops defined size q-is in-it = let same : p ≡ q = omega (arith, q-is, eqb-true n 0 z) in rw (z, same) refl
counted_goes lim g0 g1 f fs p q n (x ∷ b) true z stops defined size q-is in-it = absurd (omega (arith, size, eqb-true n 0 z))
counted_goes lim g0 g1 f fs p q n b false z stops defined size q-is in-it =
    let d : is_undefined n ≡ false = ne_eqb n undefined_length defined in
    let ends : p + length b ≡ q = omega (arith, size, q-is) in
    let stop : stop_of p n ≡ Some q = rw d (ap Some (sym q-is)) in
    rw z (in-it (false-eqb n 0 (sym z)) ∙ ap (λ m. arrive m (g1 (stop_of p n)) (f ∷ fs)) ends ∙ arrive_stopped q (g1 (stop_of p n)) f fs (stops (stop_of p n) ∙ stop))

level_goes : {t : Tag} {n : ℕ} {b c : List ℕ} (lim : Limits) (g0 g1 : Option ℕ → Scope) (f : Scope) (fs : List Scope) (p q : ℕ) → Ended t n b c → IsMark t → is_marker t ≡ true → broken_tag (spot_of (g1 None) (f ∷ fs) (p + length b)) t ≡ None → ((stop : Option ℕ) → (g1 stop).stop ≡ stop)
    → AllLastTo (f ∷ fs) q → q ≤ lim.bytes → q ≡ p + length c → (n ≢ 0 → run lim (arrive p (g0 (stop_of p n)) (f ∷ fs)) b ≡ arrive (p + length b) (g1 (stop_of p n)) (f ∷ fs))
    → run lim (begin_level p (g0 (stop_of p n)) f fs n) c ≡ arrive q f fs
unfolding begin_level
level_goes lim g0 g1 f fs p q (counted {b = b} n defined even size) mark marked tagged stops hold short q-is in-it =
    counted_goes lim g0 g1 f fs p q n b (nat_eq n 0) refl stops defined size (omega (arith, q-is, size)) in-it
level_goes {t} lim g0 g1 f fs p q (delimited {b = b}) mark marked tagged stops hold short q-is in-it =
    then_run lim (arrive p (g0 None) (f ∷ fs)) (arrive (p + length b) (g1 None) (f ∷ fs)) (arrive q f fs) b (delimitation t) (in-it (λ e. absurd cc))
    (mark_goes lim t mark (g1 None) f fs (p + length b) q tagged marked (stops None) hold short (omega (arith, q-is, length-append b (delimitation t))))

-- an element in fragments is none that opens a level
fragments_nest : (s : Coding) (h : Header) → has_fragments s ≡ true → is_sequence (shape s h) ≡ false
fragments_nest Implicit h e = absurd cc
fragments_nest Explicit h e = absurd cc
fragments_nest Encapsulated h e = absurd cc
fragments_nest Fragments h e = refl

-- the elements and items of a whole text

module _ (s : Coding) (lim : Limits) (whole : List ℕ) (short : length whole ≤ lim.bytes) (shallow : IsShallow s lim whole) where
  abbrev GoesSet : Coding → ℕ → Elements → List ℕ → Type 0
  GoesSet s1 last es b = (stop : Option ℕ) (fs : List Scope) (before : List ℕ) (p q : ℕ) → IsBefore s lim whole (set_scope s1 stop last) fs before b p q → FitIn lim.wanted fs es
      → run lim (arrive p (set_scope s1 stop last) fs) b ≡ arrive q (set_scope s1 stop (last_of last es)) fs

  abbrev GoesItems : Coding → List ℕ → Type 0
  GoesItems s1 b = (stop : Option ℕ) (fs : List Scope) (before : List ℕ) (p q : ℕ) → IsBefore s lim whole (sequence_scope s1 stop) fs before b p q
      → run lim (arrive p (sequence_scope s1 stop) fs) b ≡ arrive q (sequence_scope s1 stop) fs

  value_goes : (s1 : Coding) (last : ℕ) (h : Header) (hb v b : List ℕ) (es : Elements) → IsElement s1 last h hb → shape s1 h ≡ Value → IsValue h.length v → GoesSet s1 (number h.tag) es b → GoesSet s1 last (value h v es) (hb ++ (v ++ b))
  value_goes s1 last h hb v b es el sh val rest stop fs before p q here fit =
      let size : q ≡ p + length hb + length v + length b = omega (arith, here.size, length-append hb (v ++ b), length-append v b) in
      let far = ends_within here in
      let counts : counted_length h.length ≤ length v = counted_less h.length (length v) (omega (arith, val.size)) in
      let room : HasRoom lim (set_scope s1 stop last) fs p q (length hb) h = record { hold = here.hold; short = omega (arith, far, short); counts = omega (arith, counts, size); even = λ d. val.even } in
      let ok = keeps lim (set_scope s1 stop last) fs p q (length hb) h room (element_tagged s1 stop last p fs h hb el) (no_mark h el.no_marker) (ap (λ z. not (is_marker h.tag) && is_not_allowed z) sh ∙ and_false (not (is_marker h.tag)))
      (ap (λ z. (z && has_fragments s1) && is_undefined h.length) el.no_marker)
      (fits_room lim s1 stop last p fs h v es val.size fit)
      (ap (λ z. (((z && not (has_fragments s1)) || is_sequence (shape s1 h)) && not (nat_eq h.length 0)) && nat_le lim.depth (length fs)) el.no_marker ∙ ap (λ z. (is_sequence z && not (nat_eq h.length 0)) && nat_le lim.depth (length fs)) sh) in
      let first = header_goes lim (set_scope s1 stop last) fs p (p + length hb) h hb el.spelled ok (less_all (set_scope s1 stop last ∷ fs) (p + length hb) q here.hold (omega (arith, size))).0 refl ∙ consumed_value (p + length hb) s1 stop last fs h el.no_marker sh in
      let second = value_on lim (set_scope s1 stop (number h.tag)) fs h.tag (p + length hb) (p + length hb + length v) h.length v (nat_eq h.length 0) refl val.size (omega (arith, val.size)) in
      let one : DataSet s1 last (value h v no_elements) (hb ++ v) = subst (λ z. DataSet s1 last (value h v no_elements) (hb ++ z)) (append-nil v) (value_then el sh val nothing) in
      let grouped = subst (λ z. IsBefore s lim whole (set_scope s1 stop last) fs before z p q) (sym (append_assoc hb v b)) here in
      let next = behind (hb ++ v) b _ grouped here.nested here.hold (more_elements here.reaches one (fit_one lim.wanted fs h v es fit)) in
      let offset : p + length (hb ++ v) ≡ p + length hb + length v = omega (arith, length-append hb v) in
      then_run lim _ _ _ hb (v ++ b) first (then_run lim _ _ _ v b second (rest stop fs (before ++ (hb ++ v)) (p + length hb + length v) q (subst (λ z. IsBefore s lim whole (set_scope s1 stop (number h.tag)) fs (before ++ (hb ++ v)) b z q) offset next) (fit_rest lim.wanted fs h v es fit)))

  sequence_goes : (s1 : Coding) (last : ℕ) (h : Header) (hb ib cb b : List ℕ) (inner : Coding) (is : Items) (es : Elements) → IsElement s1 last h hb → shape s1 h ≡ Sequence inner → ItemList inner is ib → Ended sequence_end_tag h.length ib cb
      → GoesItems inner ib → GoesSet s1 (number h.tag) es b → GoesSet s1 last (sequence h is es) (hb ++ (cb ++ b))
  sequence_goes s1 last h hb ib cb b inner is es el sh items closed in-it rest stop fs before p q here fit =
      let size : q ≡ p + length hb + length cb + length b = omega (arith, here.size, length-append hb (cb ++ b), length-append cb b) in
      let far = ends_within here in
      let c = closed_is closed in
      let counts = c.counts in
      let in-offset : h.length ≢ 0 → IsBefore s lim whole (sequence_scope inner (stop_of (p + length hb) h.length)) (set_scope s1 stop (number h.tag) ∷ fs) (before ++ hb) ib (p + length hb) (p + length hb + length ib) =
      λ some. inside hb ib cb b (sequence_scope inner (stop_of (p + length hb) h.length)) (set_scope s1 stop (number h.tag)) here c here.nested here.hold refl
      (into_sequence here.reaches el sh c.even some no_more (ap (λ z. stop_of z h.length) (omega (arith, here.offset, length-append before hb))) refl (ap (λ z. before ++ z) (sym (append-nil hb)))) in
      let room : HasRoom lim (set_scope s1 stop last) fs p q (length hb) h = record { hold = here.hold; short = omega (arith, far, short); counts = omega (arith, counts, size); even = c.even } in
      let ok = keeps lim (set_scope s1 stop last) fs p q (length hb) h room (element_tagged s1 stop last p fs h hb el) (no_mark h el.no_marker) (ap (λ z. not (is_marker h.tag) && is_not_allowed z) sh ∙ and_false (not (is_marker h.tag)))
      (ap (λ z. (z && has_fragments s1) && is_undefined h.length) el.no_marker)
      (ap (λ z. ((nat_eq (length fs) 0 && not (is_marker h.tag)) && is_value z) && passes (room_of lim.wanted (number h.tag)) h.length) sh ∙ ap (λ z. z && passes (room_of lim.wanted (number h.tag)) h.length) (and_false (nat_eq (length fs) 0 && not (is_marker h.tag))))
      (opens_room ((is_marker h.tag && not (has_fragments s1)) || is_sequence (shape s1 h)) h.length lim fs (λ some. deep_at shallow (in-offset some) (opened_stays (p + length hb) h.length some))) in
      let first = header_goes lim (set_scope s1 stop last) fs p (p + length hb) h hb el.spelled ok (less_all (set_scope s1 stop last ∷ fs) (p + length hb) q here.hold (omega (arith, size))).0 refl ∙ consumed_sequence (p + length hb) s1 stop last fs h inner el.no_marker sh in
      let second = level_goes lim (sequence_scope inner) (sequence_scope inner) (set_scope s1 stop (number h.tag)) fs (p + length hb) (p + length hb + length cb) closed sequence_end_mark refl (sequence_end_tagged inner (p + length hb + length ib) (set_scope s1 stop (number h.tag)) fs) (λ o. refl)
      (less_all (set_scope s1 stop last ∷ fs) (p + length hb + length cb) q here.hold (omega (arith, size))) (omega (arith, size, far, short)) refl
      (λ some. in-it (stop_of (p + length hb) h.length) (set_scope s1 stop (number h.tag) ∷ fs) (before ++ hb) (p + length hb) (p + length hb + length ib) (in-offset some)) in
      let one : DataSet s1 last (sequence h is no_elements) (hb ++ cb) = subst (λ z. DataSet s1 last (sequence h is no_elements) (hb ++ z)) (append-nil cb) (sequence_then el sh items closed nothing) in
      let grouped = subst (λ z. IsBefore s lim whole (set_scope s1 stop last) fs before z p q) (sym (append_assoc hb cb b)) here in
      let next = behind (hb ++ cb) b _ grouped here.nested here.hold (more_sequence h is here.reaches one) in
      let offset : p + length (hb ++ cb) ≡ p + length hb + length cb = omega (arith, length-append hb cb) in
      then_run lim _ _ _ hb (cb ++ b) first (then_run lim _ _ _ cb b second (rest stop fs (before ++ (hb ++ cb)) (p + length hb + length cb) q (subst (λ z. IsBefore s lim whole (set_scope s1 stop (number h.tag)) fs (before ++ (hb ++ cb)) b z q) offset next) (fit_behind lim.wanted fs h is es fit)))

  item_goes : (s1 : Coding) (h : Header) (hb eb cb b : List ℕ) (es : Elements) → IsItem s1 h hb → DataSet s1 0 es eb → Ended item_end_tag h.length eb cb
      → GoesSet s1 0 es eb → GoesItems s1 b → GoesItems s1 (hb ++ (cb ++ b))
  item_goes s1 h hb eb cb b es it set closed in-it rest stop fs before p q here =
      let size : q ≡ p + length hb + length cb + length b = omega (arith, here.size, length-append hb (cb ++ b), length-append cb b) in
      let far = ends_within here in
      let c = closed_is closed in
      let counts = c.counts in
      let marked : is_marker h.tag ≡ true = ap (λ z. is_marker z) it.tagged in
      let in-offset : h.length ≢ 0 → IsBefore s lim whole (set_scope s1 (stop_of (p + length hb) h.length) 0) (sequence_scope s1 stop ∷ fs) (before ++ hb) eb (p + length hb) (p + length hb + length eb) =
      λ some. inside hb eb cb b (set_scope s1 (stop_of (p + length hb) h.length) 0) (sequence_scope s1 stop) here c here.nested here.hold refl
      (into_item here.reaches it c.even some nothing (ap (λ z. stop_of z h.length) (omega (arith, here.offset, length-append before hb))) refl (ap (λ z. before ++ z) (sym (append-nil hb)))) in
      let room : HasRoom lim (sequence_scope s1 stop) fs p q (length hb) h = record { hold = here.hold; short = omega (arith, far, short); counts = omega (arith, counts, size); even = c.even } in
      let ok = keeps lim (sequence_scope s1 stop) fs p q (length hb) h room (item_tagged s1 stop p fs h.tag it.tagged)
      (ap (λ z. (is_marker z && not (same_tag z item_tag)) && not (nat_eq h.length 0)) it.tagged)
      (ap (λ z. not z && is_not_allowed (shape s1 h)) marked)
      (ap (λ z. (is_marker h.tag && z) && is_undefined h.length) it.nests ∙ ap (λ z. z && is_undefined h.length) (and_false (is_marker h.tag)))
      (ap (λ z. ((nat_eq (length fs) 0 && not z) && is_value (shape s1 h)) && passes (room_of lim.wanted (number h.tag)) h.length) marked ∙ ap (λ z. (z && is_value (shape s1 h)) && passes (room_of lim.wanted (number h.tag)) h.length) (and_false (nat_eq (length fs) 0)))
      (opens_room ((is_marker h.tag && not (has_fragments s1)) || is_sequence (shape s1 h)) h.length lim fs (λ some. deep_at shallow (in-offset some) (opened_stays (p + length hb) h.length some))) in
      let first = header_goes lim (sequence_scope s1 stop) fs p (p + length hb) h hb it.spelled ok (less_all (sequence_scope s1 stop ∷ fs) (p + length hb) q here.hold (omega (arith, size))).0 refl ∙ consumed_item (p + length hb) (sequence_scope s1 stop) fs h it.tagged it.nests in
      let second = level_goes lim (λ o. set_scope s1 o 0) (λ o. set_scope s1 o (last_of 0 es)) (sequence_scope s1 stop) fs (p + length hb) (p + length hb + length cb) closed item_end_mark refl (item_end_tagged s1 (last_of 0 es) (p + length hb + length eb) (sequence_scope s1 stop) fs) (λ o. refl)
      (less_all (sequence_scope s1 stop ∷ fs) (p + length hb + length cb) q here.hold (omega (arith, size))) (omega (arith, size, far, short)) refl
      (λ some. in-it (stop_of (p + length hb) h.length) (sequence_scope s1 stop ∷ fs) (before ++ hb) (p + length hb) (p + length hb + length eb) (in-offset some) tt) in
      let one : ItemList s1 (item h es no_items) (hb ++ cb) = subst (λ z. ItemList s1 (item h es no_items) (hb ++ z)) (append-nil cb) (item_then it set closed no_more) in
      let grouped = subst (λ z. IsBefore s lim whole (sequence_scope s1 stop) fs before z p q) (sym (append_assoc hb cb b)) here in
      let next = behind (hb ++ cb) b _ grouped here.nested here.hold (more_items here.reaches one) in
      let offset : p + length (hb ++ cb) ≡ p + length hb + length cb = omega (arith, length-append hb cb) in
      then_run lim _ _ _ hb (cb ++ b) first (then_run lim _ _ _ cb b second (rest stop fs (before ++ (hb ++ cb)) (p + length hb + length cb) q (subst (λ z. IsBefore s lim whole (sequence_scope s1 stop) fs (before ++ (hb ++ cb)) b z q) offset next)))

  fragment_goes : (s1 : Coding) (h : Header) (hb v b : List ℕ) → IsFragmentItem s1 h hb → IsValue h.length v → GoesItems s1 b → GoesItems s1 (hb ++ (v ++ b))
  fragment_goes s1 h hb v b it val rest stop fs before p q here =
      let size : q ≡ p + length hb + length v + length b = omega (arith, here.size, length-append hb (v ++ b), length-append v b) in
      let far = ends_within here in
      let counts : counted_length h.length ≤ length v = counted_less h.length (length v) (omega (arith, val.size)) in
      let marked : is_marker h.tag ≡ true = ap (λ z. is_marker z) it.tagged in
      let room : HasRoom lim (sequence_scope s1 stop) fs p q (length hb) h = record { hold = here.hold; short = omega (arith, far, short); counts = omega (arith, counts, size); even = λ d. val.even } in
      let ok = keeps lim (sequence_scope s1 stop) fs p q (length hb) h room (item_tagged s1 stop p fs h.tag it.tagged)
      (ap (λ z. (is_marker z && not (same_tag z item_tag)) && not (nat_eq h.length 0)) it.tagged)
      (ap (λ z. not z && is_not_allowed (shape s1 h)) marked)
      (ap (λ z. (is_marker h.tag && has_fragments s1) && z) (ne_eqb h.length undefined_length it.defined) ∙ and_false (is_marker h.tag && has_fragments s1))
      (ap (λ z. ((nat_eq (length fs) 0 && not z) && is_value (shape s1 h)) && passes (room_of lim.wanted (number h.tag)) h.length) marked ∙ ap (λ z. (z && is_value (shape s1 h)) && passes (room_of lim.wanted (number h.tag)) h.length) (and_false (nat_eq (length fs) 0)))
      (ap (λ z. (((is_marker h.tag && not z) || is_sequence (shape s1 h)) && not (nat_eq h.length 0)) && nat_le lim.depth (length fs)) it.holds ∙ ap (λ z. ((z || is_sequence (shape s1 h)) && not (nat_eq h.length 0)) && nat_le lim.depth (length fs)) (and_false (is_marker h.tag)) ∙ ap (λ z. (z && not (nat_eq h.length 0)) && nat_le lim.depth (length fs)) (fragments_nest s1 h it.holds)) in
      let first = header_goes lim (sequence_scope s1 stop) fs p (p + length hb) h hb it.spelled ok (less_all (sequence_scope s1 stop ∷ fs) (p + length hb) q here.hold (omega (arith, size))).0 refl ∙ consumed_fragment (p + length hb) (sequence_scope s1 stop) fs h it.tagged it.holds in
      let second = value_on lim (sequence_scope s1 stop) fs h.tag (p + length hb) (p + length hb + length v) h.length v (nat_eq h.length 0) refl val.size (omega (arith, val.size)) in
      let one : ItemList s1 (fragment h v no_items) (hb ++ v) = subst (λ z. ItemList s1 (fragment h v no_items) (hb ++ z)) (append-nil v) (fragment_then it val no_more) in
      let grouped = subst (λ z. IsBefore s lim whole (sequence_scope s1 stop) fs before z p q) (sym (append_assoc hb v b)) here in
      let next = behind (hb ++ v) b _ grouped here.nested here.hold (more_items here.reaches one) in
      let offset : p + length (hb ++ v) ≡ p + length hb + length v = omega (arith, length-append hb v) in
      then_run lim _ _ _ hb (v ++ b) first (then_run lim _ _ _ v b second (rest stop fs (before ++ (hb ++ v)) (p + length hb + length v) q (subst (λ z. IsBefore s lim whole (sequence_scope s1 stop) fs (before ++ (hb ++ v)) b z q) offset next)))

  nothing_goes : (s1 : Coding) (last : ℕ) → GoesSet s1 last no_elements []
  unfolding run
  nothing_goes s1 last stop fs before p q here fit = let same : p ≡ q = omega (arith, here.size) in ap (λ z. arrive z (set_scope s1 stop last) fs) same

  no_items_goes : (s1 : Coding) → GoesItems s1 []
  unfolding run
  no_items_goes s1 stop fs before p q here = let same : p ≡ q = omega (arith, here.size) in ap (λ z. arrive z (sequence_scope s1 stop) fs) same

  mutual
    elements_go : {s1 : Coding} {last : ℕ} {es : Elements} {b : List ℕ} → DataSet s1 last es b → GoesSet s1 last es b
    elements_go nothing = nothing_goes _ _
    elements_go (value_then {s = s1} {last = last} {h = h} {hb = hb} {v = v} {es = es} {b = b} el sh val rest) = value_goes s1 last h hb v b es el sh val (elements_go rest)
    elements_go (sequence_then {s = s1} {last = last} {h = h} {hb = hb} {inner = inner} {is = is} {ib = ib} {cb = cb} {es = es} {b = b} el sh items closed rest) = sequence_goes s1 last h hb ib cb b inner is es el sh items closed (items_go items) (elements_go rest)

    items_go : {s1 : Coding} {is : Items} {b : List ℕ} → ItemList s1 is b → GoesItems s1 b
    items_go no_more = no_items_goes _
    items_go (item_then {s = s1} {h = h} {hb = hb} {es = es} {eb = eb} {cb = cb} {b = b} it set closed rest) = item_goes s1 h hb eb cb b es it set closed (elements_go set) (items_go rest)
    items_go (fragment_then {s = s1} {h = h} {hb = hb} {v = v} {b = b} it val rest) = fragment_goes s1 h hb v b it val (items_go rest)

-- the law

start_goes : (s : Coding) (lim : Limits) (b : List ℕ) (w : IsWholeDataSet s lim b) → run lim (start s) b ≡ at (set_scope s None (last_of 0 w.elements)) [] (length b) (Heading (length b) [])
unfolding arrive due
start_goes s lim b w =
    elements_go s lim b w.within.bytes w.within.depth w.text None [] [] 0 (length b)
    (record { values = []; after = []; reaches = at_root nothing refl refl tt; nested = (tt, tt); hold = (tt, tt); text = sym (append-nil b); offset = refl; size = omega arith })
    w.within.rooms

-- a whole data set within its limits breaks no rule
pub whole_breaks_no_rule : WholeBreaksNoRule
whole_breaks_no_rule s lim b w = goes_unbroken s lim b (λ k. subst (λ (z : State). HasStopped z.mode) (start_goes s lim b w) k)

-- so nothing is wrong with it
pub whole_has_no_fault : WholeHasNoFault
whole_has_no_fault s lim b fault w (breaks_rule {p = p} {u = u} {rule = rule} {tag = tag} first) = whole_breaks_no_rule s lim b w p u first.rest rule tag first.text first.breaks
whole_has_no_fault s lim b fault w (ends_early end) = end.unfinished w.elements w.text
