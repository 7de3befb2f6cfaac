-- Over a front of a data set the machine goes to the levels of the front's path, where a header is due, or stops
-- (`nested_run`). Stands on TreesRun and the laws of `element`.
use Rattle.std.proofs.Common.{◌≡◌, ℕ, ◌+◌, ◌-◌, ◌≤◌, ◌≢◌, Bool, true, false, List, [], ◌∷◌, ◌++◌, length, Option, Some, nat_eq, refl, sym, ap, subst, ◌∙◌, arith, append-nil, length-append, ne_eqb, eq-eqb}
use Rattle.sequence.specs.declared.coding.Coding.{Coding}
use Rattle.element.specs.declared.header.Header.{Header}
use Rattle.sequence.specs.declared.level.Scope.{Scope}
use Rattle.sequence.specs.Rules.{Limits}
use Rattle.sequence.specs.declared.shape.Shape.TheVariants.{Sequence}
use Rattle.element.specs.Header.{number}
use Rattle.sequence.specs.Shape.{is_undefined, undefined_length, shape}
use Rattle.sequence.specs.Tree.{Elements, Items, IsElement, IsItem, DataSet, ItemList}
use Rattle.sequence.specs.Open.{last_of, PathEntry, Tail, in_header, IsTail, header_tail, value_tail, IsItemTail, header_of_item, value_of_fragment, remaining_of, sequence_entry, item_entry, IsOpenLevel, Nested, at_elements, in_sequence_of, in_item_of}
use Rattle.sequence.specs.machine.Machine.{set_scope, sequence_scope, State, arrive, stop_of, begin_level, run}
pub use Rattle.sequence.specs.Holding.{stop_at, scope_at}
use Rattle.element.proofs.Public.{spelled_long}
use Rattle.sequence.specs.machine.Standing.{LastsTo}
use Rattle.sequence.proofs.GrammarLeads.TreesRun.{Goes, goes_then, open_from_lasts, lasts_less, header_run, elements_run, items_run, consumed_sequence, consumed_item}

-- the levels of a path, at an offset
abbrev pub top_over : ℕ → List PathEntry → Scope → Scope
top_over q [] f = f
top_over q (e ∷ path) f = scope_at q e

abbrev pub below_over : ℕ → List PathEntry → Scope → List Scope → List Scope
below_over q [] f fs = fs
below_over q (e ∷ path) f fs = top_over q path f ∷ below_over q path f fs

pub top_append : (q : ℕ) (path : List PathEntry) (e : PathEntry) (more : List PathEntry) (f : Scope) → top_over q (path ++ e ∷ more) f ≡ top_over q path (scope_at q e)
top_append q [] e more f = refl
top_append q (d ∷ path) e more f = refl

pub below_append : (q : ℕ) (path : List PathEntry) (e : PathEntry) (more : List PathEntry) (f : Scope) (fs : List Scope) → below_over q (path ++ e ∷ more) f fs ≡ below_over q path (scope_at q e) (below_over q (e ∷ more) f fs)
below_append q [] e more f fs = refl
below_append q (d ∷ path) e more f fs = λ i. top_append q path e more f i ∷ below_append q path e more f fs i

-- what is left, and where the level stops
pub stop_is : (p q n received : ℕ) → q ≡ p + received → (n ≢ undefined_length → received ≤ n) → stop_at q (remaining_of n received) ≡ stop_of p n
stop_is p q n received q-is within = by (is_undefined n) refl
  where
    by : (u : Bool) → is_undefined n ≡ u → stop_at q (remaining_of n received) ≡ stop_of p n
    by true e = rw e refl
    by false e = rw e (ap Some (sums (within (λ same. absurd (let k : true ≡ false = sym (eq-eqb n undefined_length same) ∙ e in cc)))))
      where
        sums : received ≤ n → q + (n - received) ≡ p + n
        sums le = omega arith

lasts_to_stop : (p n q : ℕ) → (n ≢ undefined_length → q ≤ p + n) → LastsTo (stop_of p n) q
lasts_to_stop p n q within = by (is_undefined n) refl
  where
    by : (u : Bool) → is_undefined n ≡ u → LastsTo (stop_of p n) q
    by true e = rw e tt
    by false e = rw e (within (λ same. absurd (let k : true ≡ false = sym (eq-eqb n undefined_length same) ∙ e in cc)))

opened : (p : ℕ) (g f : Scope) (fs : List Scope) (n : ℕ) → n ≢ 0 → begin_level p g f fs n ≡ arrive p g (f ∷ fs)
unfolding begin_level
opened p g f fs n some = let z : nat_eq n 0 ≡ false = ne_eqb n 0 some in rw z refl

-- a path, over the scope that it stands in
abbrev pub Leads : Limits → Coding → List ℕ → List PathEntry → ℕ → Type 0
Leads lim s b path last = (stop : Option ℕ) (fs : List Scope) (p q : ℕ) → LastsTo stop q → q ≡ p + length b
    → Goes (run lim (arrive p (set_scope s stop 0) fs) b) (arrive q (top_over q path (set_scope s stop last)) (below_over q path (set_scope s stop last) fs))

elements_lead : (lim : Limits) (s : Coding) (es : Elements) (b : List ℕ) → DataSet s 0 es b → Leads lim s (b ++ []) [] (last_of 0 es)
elements_lead lim s es b set stop fs p q room q-is =
    rw (append-nil b) (elements_run lim set stop fs p q room (q-is ∙ ap (λ z. p + length z) (append-nil b)))

-- whole elements and the header of a sequence
sequence_leads : (lim : Limits) (s : Coding) (es : Elements) (b : List ℕ) (h : Header) (hb : List ℕ) (inner : Coding) (rest : List ℕ) → DataSet s 0 es b → IsElement s (last_of 0 es) h hb → shape s h ≡ Sequence inner → h.length ≢ 0
    → (stop : Option ℕ) (fs : List Scope) (p q : ℕ) (want : State) → LastsTo stop q → q ≡ p + length (b ++ (hb ++ rest))
    → Goes (run lim (arrive (p + length b + length hb) (sequence_scope inner (stop_of (p + length b + length hb) h.length)) (set_scope s stop (number h.tag) ∷ fs)) rest) want
    → Goes (run lim (arrive p (set_scope s stop 0) fs) (b ++ (hb ++ rest))) want
sequence_leads lim s es b h hb inner rest set el sh some stop fs p q want room q-is goes =
    let size : q ≡ p + length b + length hb + length rest = omega (arith, q-is, length-append b (hb ++ rest), length-append hb rest) in
    let long = spelled_long el.spelled in
    let first = elements_run lim set stop fs p (p + length b) (lasts_less stop (p + length b) q room (omega arith)) refl in
    let second : Goes (run lim (arrive (p + length b) (set_scope s stop (last_of 0 es)) fs) hb) (arrive (p + length b + length hb) (sequence_scope inner (stop_of (p + length b + length hb) h.length)) (set_scope s stop (number h.tag) ∷ fs)) =
    subst (λ z. Goes (run lim (arrive (p + length b) (set_scope s stop (last_of 0 es)) fs) hb) z)
    (consumed_sequence (p + length b + length hb) s stop (last_of 0 es) fs h inner el.no_marker sh ∙ opened (p + length b + length hb) _ _ fs h.length some)
    (header_run lim (set_scope s stop (last_of 0 es)) fs (p + length b) (p + length b + length hb) h hb el.spelled (open_from_lasts stop (p + length b) (length hb) (lasts_less stop (p + length b + length hb) q room (omega arith)) (omega arith)) refl) in
    goes_then lim _ _ _ b (hb ++ rest) first (goes_then lim _ _ _ hb rest second goes)

item_step : (lim : Limits) (s : Coding) (k : Header) (kb b2 : List ℕ) (path : List PathEntry) (last : ℕ) → IsItem s k kb → IsOpenLevel k.length (length b2) → Leads lim s b2 path last
    → (stop : Option ℕ) (fs : List Scope) (p q : ℕ) → LastsTo stop q → q ≡ p + length (kb ++ b2)
    → Goes (run lim (arrive p (sequence_scope s stop) fs) (kb ++ b2)) (arrive q (top_over q path (scope_at q (item_entry s k.length (length b2) last))) (below_over q path (scope_at q (item_entry s k.length (length b2) last)) (sequence_scope s stop ∷ fs)))
item_step lim s k kb b2 path last it level goes stop fs p q room q-is =
    let size : q ≡ p + length kb + length b2 = omega (arith, q-is, length-append kb b2) in
    let long = spelled_long it.spelled in
    let first : Goes (run lim (arrive p (sequence_scope s stop) fs) kb) (arrive (p + length kb) (set_scope s (stop_of (p + length kb) k.length) 0) (sequence_scope s stop ∷ fs)) =
    subst (λ z. Goes (run lim (arrive p (sequence_scope s stop) fs) kb) z) (consumed_item (p + length kb) (sequence_scope s stop) fs k it.tagged it.nests ∙ opened (p + length kb) _ _ fs k.length level.some)
    (header_run lim (sequence_scope s stop) fs p (p + length kb) k kb it.spelled (open_from_lasts stop p (length kb) (lasts_less stop (p + length kb) q room (omega arith)) (omega arith)) refl) in
    let holds : LastsTo (stop_of (p + length kb) k.length) q = lasts_to_stop (p + length kb) k.length q (λ d. omega (arith, level.within d)) in
    let second = goes (stop_of (p + length kb) k.length) (sequence_scope s stop ∷ fs) (p + length kb) q holds size in
    let same : set_scope s (stop_of (p + length kb) k.length) last ≡ scope_at q (item_entry s k.length (length b2) last) = ap (λ z. set_scope s z last) (sym (stop_is (p + length kb) q k.length (length b2) size level.within)) in
    goes_then lim _ _ _ kb b2 first (subst (λ z. Goes (run lim (arrive (p + length kb) (set_scope s (stop_of (p + length kb) k.length) 0) (sequence_scope s stop ∷ fs)) b2) (arrive q (top_over q path z) (below_over q path z (sequence_scope s stop ∷ fs)))) same second)

in_sequence_leads : (lim : Limits) (s : Coding) (es : Elements) (b : List ℕ) (h : Header) (hb : List ℕ) (inner : Coding) (is : Items) (ib : List ℕ) → DataSet s 0 es b → IsElement s (last_of 0 es) h hb → shape s h ≡ Sequence inner → IsOpenLevel h.length (length ib) → ItemList inner is ib
    → Leads lim s (b ++ (hb ++ ib)) (sequence_entry inner h.length (length ib) ∷ []) (number h.tag)
in_sequence_leads lim s es b h hb inner is ib set el sh level items stop fs p q room q-is =
    let p2 : ℕ = p + length b + length hb in
    let size : q ≡ p + length b + length hb + length ib = omega (arith, q-is, length-append b (hb ++ ib), length-append hb ib) in
    let holds : LastsTo (stop_of (p + length b + length hb) h.length) q = lasts_to_stop (p + length b + length hb) h.length q (λ d. omega (arith, level.within d)) in
    let inside = items_run lim items (stop_of (p + length b + length hb) h.length) (set_scope s stop (number h.tag) ∷ fs) (p + length b + length hb) q holds size in
    let same : sequence_scope inner (stop_of (p + length b + length hb) h.length) ≡ scope_at q (sequence_entry inner h.length (length ib)) = ap (sequence_scope inner) (sym (stop_is (p + length b + length hb) q h.length (length ib) size level.within)) in
    sequence_leads lim s es b h hb inner ib set el sh level.some stop fs p q _ room q-is
    (subst (λ z. Goes (run lim (arrive (p + length b + length hb) (sequence_scope inner (stop_of (p + length b + length hb) h.length)) (set_scope s stop (number h.tag) ∷ fs)) ib) (arrive q z (set_scope s stop (number h.tag) ∷ fs))) same inside)

in_item_leads : (lim : Limits) (s : Coding) (es : Elements) (b : List ℕ) (h : Header) (hb : List ℕ) (inner : Coding) (is : Items) (ib : List ℕ) (k : Header) (kb b2 : List ℕ) (path : List PathEntry) (last : ℕ) → DataSet s 0 es b → IsElement s (last_of 0 es) h hb → shape s h ≡ Sequence inner → IsOpenLevel h.length (length (ib ++ (kb ++ b2))) → ItemList inner is ib
    → IsItem inner k kb → IsOpenLevel k.length (length b2) → Leads lim inner b2 path last
    → Leads lim s (b ++ (hb ++ (ib ++ (kb ++ b2)))) (path ++ (item_entry inner k.length (length b2) last ∷ sequence_entry inner h.length (length (ib ++ (kb ++ b2))) ∷ [])) (number h.tag)
in_item_leads lim s es b h hb inner is ib k kb b2 path last set el sh level items it level2 goes stop fs p q room q-is =
    let size : q ≡ p + length b + length hb + length (ib ++ (kb ++ b2)) = omega (arith, q-is, length-append b (hb ++ (ib ++ (kb ++ b2))), length-append hb (ib ++ (kb ++ b2))) in
    let size2 : q ≡ (p + length b + length hb + length ib) + length (kb ++ b2) = omega (arith, size, length-append ib (kb ++ b2)) in
    let holds : LastsTo (stop_of (p + length b + length hb) h.length) q = lasts_to_stop (p + length b + length hb) h.length q (λ d. omega (arith, level.within d)) in
    let inside = items_run lim items (stop_of (p + length b + length hb) h.length) (set_scope s stop (number h.tag) ∷ fs) (p + length b + length hb) (p + length b + length hb + length ib) (lasts_less (stop_of (p + length b + length hb) h.length) (p + length b + length hb + length ib) q holds (omega arith)) refl in
    let deeper = item_step lim inner k kb b2 path last it level2 goes (stop_of (p + length b + length hb) h.length) (set_scope s stop (number h.tag) ∷ fs) (p + length b + length hb + length ib) q holds size2 in
    let same : sequence_scope inner (stop_of (p + length b + length hb) h.length) ≡ scope_at q (sequence_entry inner h.length (length (ib ++ (kb ++ b2)))) = ap (sequence_scope inner) (sym (stop_is (p + length b + length hb) q h.length (length (ib ++ (kb ++ b2))) size level.within)) in
    let item : PathEntry = item_entry inner k.length (length b2) last in
    let wanted = sequence_leads lim s es b h hb inner (ib ++ (kb ++ b2)) set el sh level.some stop fs p q _ room q-is (goes_then lim _ _ _ ib (kb ++ b2) inside deeper) in
    subst (λ z. Goes (run lim (arrive p (set_scope s stop 0) fs) (b ++ (hb ++ (ib ++ (kb ++ b2))))) z)
    (ap (λ z. arrive q (top_over q path (scope_at q (item_entry inner k.length (length b2) last))) (below_over q path (scope_at q (item_entry inner k.length (length b2) last)) (z ∷ set_scope s stop (number h.tag) ∷ fs))) same
    ∙ ap (λ z. arrive q z (below_over q path (scope_at q (item_entry inner k.length (length b2) last)) (scope_at q (sequence_entry inner h.length (length (ib ++ (kb ++ b2)))) ∷ set_scope s stop (number h.tag) ∷ fs))) (sym (top_append q path (item_entry inner k.length (length b2) last) (sequence_entry inner h.length (length (ib ++ (kb ++ b2))) ∷ []) (set_scope s stop (number h.tag))))
    ∙ ap (λ z. arrive q (top_over q (path ++ (item_entry inner k.length (length b2) last ∷ sequence_entry inner h.length (length (ib ++ (kb ++ b2))) ∷ [])) (set_scope s stop (number h.tag))) z) (sym (below_append q path (item_entry inner k.length (length b2) last) (sequence_entry inner h.length (length (ib ++ (kb ++ b2))) ∷ []) (set_scope s stop (number h.tag)) fs)))
    wanted

nothing_remaining : {s : Coding} {last : ℕ} {tail : Tail} {t : List ℕ} → IsTail s last tail t → tail ≡ in_header [] → t ≡ []
nothing_remaining (header_tail part) e = cc
nothing_remaining (value_tail v el sh lt) e = absurd cc

no_item_remaining : {s : Coding} {tail : Tail} {t : List ℕ} → IsItemTail s tail t → tail ≡ in_header [] → t ≡ []
no_item_remaining (header_of_item part) e = cc
no_item_remaining (value_of_fragment v it lt) e = absurd cc

-- where a header is due, the machine has the levels of the path, or has stopped
pub nested_run : (lim : Limits) {s : Coding} {b : List ℕ} {es : Elements} {path : List PathEntry} {last : ℕ} {tail : Tail} → Nested s b es path last tail → tail ≡ in_header [] → Leads lim s b path last
nested_run lim (at_elements {s = s} {es = es} {b = b} {t = t} set tail) e = subst (λ z. Leads lim s (b ++ z) [] (last_of 0 es)) (sym (nothing_remaining tail e)) (elements_lead lim s es b set)
nested_run lim (in_sequence_of {s = s} q {t = t} level tail) e =
    let nil : t ≡ [] = no_item_remaining tail e in
    let none : q.item_bytes ++ t ≡ q.item_bytes = ap (λ z. q.item_bytes ++ z) nil ∙ append-nil q.item_bytes in
    subst (λ z. Leads lim s (q.before ++ (q.spelling ++ z)) (sequence_entry q.inner q.header.length (length z) ∷ []) (number q.header.tag)) (sym none)
    (in_sequence_leads lim s q.elements q.before q.header q.spelling q.inner q.items q.item_bytes q.elements-are q.header-is q.shaped (subst (λ z. IsOpenLevel q.header.length (length z)) none level) q.items-are)
nested_run lim (in_item_of {s = s} q {k = k} {kb = kb} {b2 = b2} {path = path} {last = last} level it level2 deeper) e =
    in_item_leads lim s q.elements q.before q.header q.spelling q.inner q.items q.item_bytes k kb b2 path last q.elements-are q.header-is q.shaped level q.items-are it level2 (nested_run lim deeper e)
