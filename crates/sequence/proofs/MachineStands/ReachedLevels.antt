-- A text that leads to some levels leads to them with elements, a sequence, a value or items more (`more_elements`,
-- `more_sequence`, `more_value`, `more_items`), and the innermost ends in the one round it (`level_ends`). Stands on the
-- definitions alone.
use Rattle.std.proofs.Common.{◌≡◌, ℕ, ◌+◌, ◌≢◌, ◌⊎◌, Bool, true, false, List, [], ◌∷◌, ◌++◌, length, Option, Some, None, refl, sym, ap, subst, ◌∙◌, inl, inr, arith, append_assoc, append-nil, length-append, eqb-true, eq-eqb, if◌then◌else◌}
use Rattle.sequence.specs.declared.coding.Coding.{Coding}
use Rattle.element.specs.declared.tag.Tag.{Tag}
use Rattle.element.specs.declared.header.Header.{Header}
use Rattle.sequence.specs.declared.level.Scope.{Scope}
use Rattle.sequence.specs.Rules.{Limits}
use Rattle.element.specs.Header.{number, item_end_tag, sequence_end_tag}
use Rattle.sequence.specs.Shape.{is_undefined, undefined_length}
use Rattle.sequence.specs.Tree.{delimitation, Elements, no_elements, value, sequence, Items, no_items, item, fragment, Ended, counted, delimited, DataSet, nothing, value_then, sequence_then, ItemList, no_more, item_then, fragment_then}
use Rattle.sequence.specs.Open.{last_of}
use Rattle.sequence.specs.Wanted.{Values, is_wanted, kept_of}
use Rattle.sequence.specs.Within.{FitRooms}
use Rattle.sequence.specs.Rules.{Limits}
use Rattle.sequence.specs.machine.Keeping.{with_value}
use Rattle.sequence.specs.declared.wanted.Want.{Want}
use Rattle.sequence.specs.machine.Standing.{IsLength, IsFit, Reaches, at_root, into_sequence, into_item}
use Rattle.sequence.specs.machine.Machine.{set_scope, sequence_scope, stop_of}

-- one list after another

pub elements_append : Elements → Elements → Elements
elements_append no_elements more = more
elements_append (value h v es) more = value h v (elements_append es more)
elements_append (sequence h is es) more = sequence h is (elements_append es more)

pub items_append : Items → Items → Items
items_append no_items more = more
items_append (item h es is) more = item h es (items_append is more)
items_append (fragment h v is) more = fragment h v (items_append is more)

pub last_append : (last : ℕ) (es more : Elements) → last_of last (elements_append es more) ≡ last_of (last_of last es) more
unfolding elements_append
last_append last no_elements more = refl
last_append last (value h v es) more = last_append (number h.tag) es more
last_append last (sequence h is es) more = last_append (number h.tag) es more

regroup : (a b c d : List ℕ) → (a ++ (b ++ c)) ++ d ≡ a ++ (b ++ (c ++ d))
regroup a b c d = simp append_assoc

pub set_append : {s : Coding} {last : ℕ} {es more : Elements} {b c : List ℕ} → DataSet s last es b → DataSet s (last_of last es) more c → DataSet s last (elements_append es more) (b ++ c)
unfolding elements_append
set_append nothing d = d
set_append {c = c} (value_then {hb = hb} {v = v} {b = b} el sh val rest) d = rw (regroup hb v b c) (value_then el sh val (set_append rest d))
set_append {c = c} (sequence_then {hb = hb} {cb = cb} {b = b} el sh items closed rest) d = rw (regroup hb cb b c) (sequence_then el sh items closed (set_append rest d))

pub list_append : {s : Coding} {is more : Items} {b c : List ℕ} → ItemList s is b → ItemList s more c → ItemList s (items_append is more) (b ++ c)
unfolding items_append
list_append no_more d = d
list_append {c = c} (item_then {hb = hb} {cb = cb} {b = b} it set closed rest) d = rw (regroup hb cb b c) (item_then it set closed (list_append rest d))
list_append {c = c} (fragment_then {hb = hb} {v = v} {b = b} it val rest) d = rw (regroup hb v b c) (fragment_then it val (list_append rest d))

-- the values of elements, in the data set itself or in an item

abbrev pub kept_in : List Want → List Scope → Elements → Values
kept_in ws [] es = kept_of ws es
kept_in ws (f ∷ fs) es = []

abbrev pub FitIn : List Want → List Scope → Elements → Type 0
FitIn ws [] es = FitRooms ws es
FitIn ws (f ∷ fs) es = Unit {0}

kept_by : (b : Bool) (one : ℕ × List ℕ) (some more all : Values) → all ≡ some ++ more → (if b then one ∷ all else all) ≡ (if b then one ∷ some else some) ++ more
kept_by true one some more all e = ap (λ z. one ∷ z) e
kept_by false one some more all e = e

pub kept_append : (ws : List Want) (es more : Elements) → kept_of ws (elements_append es more) ≡ kept_of ws es ++ kept_of ws more
unfolding elements_append
kept_append ws no_elements more = refl
kept_append ws (value h v es) more = kept_by (is_wanted ws (number h.tag)) (number h.tag, v) (kept_of ws es) (kept_of ws more) _ (kept_append ws es more)
kept_append ws (sequence h is es) more = kept_append ws es more

pub fit_append : (ws : List Want) (es more : Elements) → FitRooms ws es → FitRooms ws more → FitRooms ws (elements_append es more)
unfolding elements_append
fit_append ws no_elements more f g = g
fit_append ws (value h v es) more f g = (f.0, fit_append ws es more f.1 g)
fit_append ws (sequence h is es) more f g = fit_append ws es more f g

-- elements more, in the innermost data set
pub more_elements : {s s1 : Coding} {ws : List Want} {values : Values} {stop : Option ℕ} {last : ℕ} {fs : List Scope} {q c : List ℕ} {more : Elements} → Reaches s ws values (set_scope s1 stop last) fs q → DataSet s1 last more c → FitIn ws fs more
    → Reaches s ws (values ++ kept_in ws fs more) (set_scope s1 stop (last_of last more)) fs (q ++ c)
more_elements {s = s} {ws = ws} {c = c} {more = more} (at_root {es = es} {b = b} {last = last} set e k fits) d fit =
    at_root (set_append set (subst (λ z. DataSet s z more c) e d)) (ap (λ z. last_of z more) e ∙ sym (last_append 0 es more)) (ap (λ z. z ++ kept_of ws more) k ∙ sym (kept_append ws es more)) (fit_append ws es more fits fit)
more_elements {s = s} {ws = ws} {c = c} {more = more} (into_item {s1 = s1} {stop = stop} {out = out} {last = last} {fs = fs} {q = q} {hb = hb} {es = es} {eb = eb} {b = b} {values = values} r it len some set stop-is last-is b-is) d fit =
    subst (λ z. Reaches s ws z (set_scope s1 stop (last_of last more)) (sequence_scope s1 out ∷ fs) (b ++ c)) (sym (append-nil values))
    (into_item r it len some (set_append set (subst (λ z. DataSet s1 z more c) last-is d)) stop-is (ap (λ z. last_of z more) last-is ∙ sym (last_append 0 es more)) (ap (λ z. z ++ c) b-is ∙ regroup q hb eb c))

none_kept : (ws : List Want) (fs : List Scope) (h : Header) (is : Items) → kept_in ws fs (sequence h is no_elements) ≡ []
none_kept ws [] h is = refl
none_kept ws (f ∷ fs) h is = refl

none_fit : (ws : List Want) (fs : List Scope) (h : Header) (is : Items) → FitIn ws fs (sequence h is no_elements)
none_fit ws [] h is = tt
none_fit ws (f ∷ fs) h is = tt

-- a sequence more
pub more_sequence : {s s1 : Coding} {ws : List Want} {values : Values} {stop : Option ℕ} {last : ℕ} {fs : List Scope} {q c : List ℕ} (h : Header) (is : Items) → Reaches s ws values (set_scope s1 stop last) fs q → DataSet s1 last (sequence h is no_elements) c
    → Reaches s ws values (set_scope s1 stop (number h.tag)) fs (q ++ c)
more_sequence {s = s} {s1 = s1} {ws = ws} {values = values} {stop = stop} {fs = fs} {q = q} {c = c} h is r d =
    subst (λ z. Reaches s ws z (set_scope s1 stop (number h.tag)) fs (q ++ c)) (ap (λ z. values ++ z) (none_kept ws fs h is) ∙ append-nil values) (more_elements r d (none_fit ws fs h is))

value_by : (b : Bool) (one : ℕ × List ℕ) (values : Values) → values ++ (if b then one ∷ [] else []) ≡ (if b then values ++ one ∷ [] else values)
value_by true one values = refl
value_by false one values = append-nil values

value_kept : (lim : Limits) (fs : List Scope) (h : Header) (v : List ℕ) (values : Values) → values ++ kept_in lim.wanted fs (value h v no_elements) ≡ with_value lim fs (number h.tag) v values
value_kept lim [] h v values = value_by (is_wanted lim.wanted (number h.tag)) (number h.tag, v) values
value_kept lim (f ∷ fs) h v values = append-nil values

value_fit : (ws : List Want) (fs : List Scope) (h : Header) (v : List ℕ) → length v ≡ h.length → IsFit ws fs (number h.tag) h.length → FitIn ws fs (value h v no_elements)
value_fit ws [] h v size fit = (λ room e. let k = fit room e in omega (arith, k, size), tt)
value_fit ws (f ∷ fs) h v size fit = tt

-- a value more
pub more_value : {s s1 : Coding} {values : Values} {stop : Option ℕ} {last : ℕ} {fs : List Scope} {q c : List ℕ} (lim : Limits) (h : Header) (v : List ℕ) → Reaches s lim.wanted values (set_scope s1 stop last) fs q → DataSet s1 last (value h v no_elements) c → length v ≡ h.length → IsFit lim.wanted fs (number h.tag) h.length
    → Reaches s lim.wanted (with_value lim fs (number h.tag) v values) (set_scope s1 stop (number h.tag)) fs (q ++ c)
more_value {s = s} {s1 = s1} {values = values} {stop = stop} {fs = fs} {q = q} {c = c} lim h v r d size fit =
    subst (λ z. Reaches s lim.wanted z (set_scope s1 stop (number h.tag)) fs (q ++ c)) (value_kept lim fs h v values) (more_elements r d (value_fit lim.wanted fs h v size fit))

pub more_items : {s s1 : Coding} {ws : List Want} {values : Values} {stop : Option ℕ} {fs : List Scope} {q c : List ℕ} {more : Items} → Reaches s ws values (sequence_scope s1 stop) fs q → ItemList s1 more c
    → Reaches s ws values (sequence_scope s1 stop) fs (q ++ c)
more_items {c = c} (into_sequence {q = q} {hb = hb} {ib = ib} r el sh len some items stop-is k-is b-is) d =
    into_sequence r el sh len some (list_append items d) stop-is k-is (ap (λ z. z ++ c) b-is ∙ regroup q hb ib c)

-- what closes a level: the length that its header says, at its end, or a delimitation

stop_some : (p n e : ℕ) → stop_of p n ≡ Some e → (n ≢ undefined_length) × (p + n ≡ e)
stop_some p n e h = stop_by (is_undefined n) refl h
  where
    stop_by : (u : Bool) → is_undefined n ≡ u → stop_of p n ≡ Some e → (n ≢ undefined_length) × (p + n ≡ e)
    stop_by true g h = absurd (let k : None ≡ Some e = rw g at h in cc)
    stop_by false g h = (λ same. absurd (let k : true ≡ false = sym (eq-eqb n undefined_length same) ∙ g in cc), let k : Some (p + n) ≡ Some e = rw g at h in cc)

stop_none : (p n : ℕ) → stop_of p n ≡ None → n ≡ undefined_length
stop_none p n h = stop_by (is_undefined n) refl h
  where
    stop_by : (u : Bool) → is_undefined n ≡ u → stop_of p n ≡ None → n ≡ undefined_length
    stop_by true g h = eqb-true n undefined_length g
    stop_by false g h = absurd (let k : Some (p + n) ≡ None = rw g at h in cc)

-- the text b after a header at the offset p, and its end
abbrev pub IsEnd : Tag → Option ℕ → ℕ → List ℕ → Type 0
IsEnd t stop now e = ((stop ≡ Some now) × (e ≡ [])) ⊎ ((stop ≡ None) × (e ≡ delimitation t))

closed_by : (t : Tag) (stop : Option ℕ) (q hb b p e : List ℕ) (n : ℕ) → IsLength n → stop ≡ stop_of (length (q ++ hb)) n → p ≡ q ++ (hb ++ b) → IsEnd t stop (length p) e → Ended t n b (b ++ e)
closed_by t stop q hb b p e n len stop-is p-is (inl h) =
    let s = stop_some (length (q ++ hb)) n (length p) (sym stop-is ∙ h.0) in
    let size : length b ≡ n = omega (arith, s.1, ap length p-is, length-append q (hb ++ b), length-append hb b, length-append q hb) in
    let same : b ≡ b ++ e = sym (append-nil b) ∙ ap (λ z. b ++ z) (sym h.1) in
    subst (λ z. Ended t n b z) same (counted n s.0 (len s.0) size)
closed_by t stop q hb b p e n len stop-is p-is (inr h) =
    let s = stop_none (length (q ++ hb)) n (sym stop-is ∙ h.0) in
    let same : b ++ delimitation t ≡ b ++ e = ap (λ z. b ++ z) (sym h.1) in
    subst (λ z. Ended t n b z) same (subst (λ z. Ended t z b (b ++ delimitation t)) (sym s) delimited)

one_element : (h : Header) (is : Items) → Elements
one_element h is = sequence h is no_elements

-- the innermost level ends, and stands in the one round it
pub level_ends : {s : Coding} {ws : List Want} {values : Values} {f g : Scope} {gs : List Scope} {p : List ℕ} (e : List ℕ) → Reaches s ws values f (g ∷ gs) p → IsEnd (if f.in_sequence then sequence_end_tag else item_end_tag) f.stop (length p) e → Reaches s ws values g gs (p ++ e)
level_ends {s = s} {ws = ws} {values = values} e (into_sequence {s1 = s1} {stop = stop} {out = out} {last = last} {fs = fs} {q = q} {h = h} {hb = hb} {inner = inner} {is = is} {ib = ib} {b = b} {k = k} r el sh len some items stop-is k-is b-is) end =
    let closed = closed_by sequence_end_tag stop q hb ib b e h.length len stop-is b-is end in
    let text : DataSet s1 last (sequence h is no_elements) (hb ++ ((ib ++ e) ++ [])) = sequence_then el sh items closed nothing in
    let whole = more_sequence h is r text in
    let same : q ++ (hb ++ ((ib ++ e) ++ [])) ≡ b ++ e = ap (λ z. q ++ (hb ++ z)) (append-nil (ib ++ e)) ∙ sym (regroup q hb ib e) ∙ ap (λ z. z ++ e) (sym b-is) in
    subst (λ z. Reaches s ws values (set_scope s1 out z) fs (b ++ e)) (sym k-is) (subst (λ z. Reaches s ws values (set_scope s1 out (number h.tag)) fs z) same whole)
level_ends {s = s} {ws = ws} {values = values} e (into_item {s1 = s1} {stop = stop} {out = out} {fs = fs} {q = q} {h = h} {hb = hb} {es = es} {eb = eb} {b = b} r it len some set stop-is last-is b-is) end =
    let closed = closed_by item_end_tag stop q hb eb b e h.length len stop-is b-is end in
    let text : ItemList s1 (item h es no_items) (hb ++ ((eb ++ e) ++ [])) = item_then it set closed no_more in
    let whole = more_items r text in
    let same : q ++ (hb ++ ((eb ++ e) ++ [])) ≡ b ++ e = ap (λ z. q ++ (hb ++ z)) (append-nil (eb ++ e)) ∙ sym (regroup q hb eb e) ∙ ap (λ z. z ++ e) (sym b-is) in
    subst (λ z. Reaches s ws values (sequence_scope s1 out) fs z) same whole
