-- The levels that a text leads to are the path of a front (`plug`). Stands on FrontsRun.
use Rattle.std.proofs.Common.{◌≡◌, ℕ, ◌+◌, ◌≤◌, ◌≢◌, Bool, true, false, List, [], ◌∷◌, ◌++◌, length, Option, Some, None, refl, sym, ap, subst, ◌∙◌, arith, append_assoc, length-append, ne_eqb}
use Rattle.sequence.specs.declared.coding.Coding.{Coding}
use Rattle.sequence.specs.declared.level.Scope.{Scope}
use Rattle.element.specs.Header.{number}
use Rattle.sequence.specs.Shape.{is_undefined, undefined_length}
use Rattle.sequence.specs.Tree.{Elements, IsElement, DataSet}
use Rattle.sequence.specs.declared.wanted.Want.{Want}
use Rattle.sequence.specs.Open.{last_of, remaining_of, PathEntry, Tail, sequence_entry, item_entry, IsOpenLevel, Nested, in_item_of}
use Rattle.sequence.specs.Wanted.{Values, kept_of}
use Rattle.sequence.specs.Within.{FitRooms}
use Rattle.sequence.specs.machine.Machine.{set_scope, sequence_scope, stop_of}
use Rattle.sequence.specs.machine.Standing.{Reaches, at_root, into_sequence, into_item, LastsTo, AllLastTo}
use Rattle.sequence.proofs.GrammarLeads.FrontsRun.{stop_at, scope_at, top_over, below_over, top_append, below_append, stop_is}

-- the text b is a front whose path, at the offset n, is these levels
pub record IsFront (s : Coding) (ws : List Want) (values : Values) (n : ℕ) (b : List ℕ) (tail : Tail) (f : Scope) (fs : List Scope) : Type 0 where
  pub elements : Elements
  pub path : List PathEntry
  pub last : ℕ
  pub nested : Nested s b elements path last tail
  pub top : top_over n path (set_scope s None last) ≡ f
  pub below : below_over n path (set_scope s None last) [] ≡ fs
  pub kept : values ≡ kept_of ws elements
  pub fits : FitRooms ws elements

received_by : (stop : Option ℕ) (p n k : ℕ) → stop ≡ stop_of p k → LastsTo stop n → k ≢ undefined_length → n ≤ p + k
received_by stop p n k stop-is holds defined =
    let d : is_undefined k ≡ false = ne_eqb k undefined_length defined in
    let e : stop ≡ Some (p + k) = rw d at stop-is in
    subst (λ o. LastsTo o n) e holds

plug_text : (q0 hb0 ib0 b0 hb eb b rest : List ℕ) → b0 ≡ q0 ++ (hb0 ++ ib0) → b ≡ b0 ++ (hb ++ eb) → q0 ++ (hb0 ++ (ib0 ++ (hb ++ (eb ++ rest)))) ≡ b ++ rest
plug_text q0 hb0 ib0 b0 hb eb b rest e0 e = sym (ap (λ z. z ++ rest) (e ∙ ap (λ z. z ++ (hb ++ eb)) e0) ∙ simp append_assoc)

-- an offset where the header of a level ended, and what followed it
pub level_is : (stop : Option ℕ) (before received : List ℕ) (n k : ℕ) → n ≡ length before + length received → k ≢ 0 → stop ≡ stop_of (length before) k → LastsTo stop n → IsOpenLevel k (length received)
level_is stop before received n k n-is some stop-is holds = record { some = some; within = λ d. let le = received_by stop (length before) n k stop-is holds d in omega (arith, le, n-is) }

pub entry_scope : (in-sequence : Bool) (s : Coding) (stop : Option ℕ) (last p n k received : ℕ) → n ≡ p + received → IsOpenLevel k received → stop ≡ stop_of p k → ◌≡◌ {A = Scope} (record { in_sequence = in-sequence; syntax = s; stop = stop_at n (remaining_of k received); last = last }) (record { in_sequence = in-sequence; syntax = s; stop = stop; last = last })
entry_scope in-sequence s stop last p n k received n-is level stop-is = let same = stop_is p n k received n-is level.within ∙ sym stop-is in λ i. record { in_sequence = in-sequence; syntax = s; stop = same i; last = last }

pub plug : {s : Coding} {ws : List Want} {values : Values} {s1 : Coding} {stop : Option ℕ} {last0 : ℕ} {fs : List Scope} {q : List ℕ} (rest : List ℕ) (tail : Tail) (path2 : List PathEntry) (last2 n : ℕ) → Reaches s ws values (set_scope s1 stop last0) fs q → n ≡ length (q ++ rest) → LastsTo stop n → AllLastTo fs n
    → ((es : Elements) (eb : List ℕ) → DataSet s1 0 es eb → last0 ≡ last_of 0 es → Nested s1 (eb ++ rest) es path2 last2 tail)
    → IsFront s ws values n (q ++ rest) tail (top_over n path2 (set_scope s1 stop last2)) (below_over n path2 (set_scope s1 stop last2) fs)
plug rest tail path2 last2 n (at_root {es = es} {b = b} set e k fits) n-is holds all inner = record { elements = es; path = path2; last = last2; nested = inner es b set e; top = refl; below = refl; kept = k; fits = fits }
plug {s = s} rest tail path2 last2 n (into_item {s1 = s1} {stop = stop} {out = out} {h = h} {hb = hb} {es = es} {eb = eb} {b = b} (into_sequence {s1 = s0} {stop = stop0} {out = out0} {last = last00} {fs = fs} {q = q0} {h = h0} {hb = hb0} {is = is0} {ib = ib0} {b = b0} {k = k0} r el sh len0 some0 items stop-is0 k-is0 b-is0) it len some set stop-is last-is b-is) n-is holds all inner =
    let rest0 : List ℕ = hb0 ++ (ib0 ++ (hb ++ (eb ++ rest))) in
    let text = plug_text q0 hb0 ib0 b0 hb eb b rest b-is0 b-is in
    let n0 : n ≡ length (q0 ++ rest0) = n-is ∙ ap length (sym text) in
    let n1 : n ≡ length (b0 ++ hb) + length (eb ++ rest) = n-is ∙ ap (λ z. length (z ++ rest)) b-is ∙ omega (arith, length-append (b0 ++ (hb ++ eb)) rest, length-append b0 (hb ++ eb), length-append hb eb, length-append b0 hb, length-append eb rest) in
    let n2 : n ≡ length (q0 ++ hb0) + length (ib0 ++ (hb ++ (eb ++ rest))) = n0 ∙ omega (arith, length-append q0 (hb0 ++ (ib0 ++ (hb ++ (eb ++ rest)))), length-append hb0 (ib0 ++ (hb ++ (eb ++ rest))), length-append q0 hb0) in
    let level1 = level_is stop (b0 ++ hb) (eb ++ rest) n h.length n1 some stop-is holds in
    let level0 = level_is out (q0 ++ hb0) (ib0 ++ (hb ++ (eb ++ rest))) n h0.length n2 some0 stop-is0 all.0 in
    let item : PathEntry = item_entry s1 h.length (length (eb ++ rest)) last2 in
    let seq : PathEntry = sequence_entry s1 h0.length (length (ib0 ++ (hb ++ (eb ++ rest)))) in
    let front = plug rest0 tail (path2 ++ (item ∷ seq ∷ [])) (number h0.tag) n r n0 all.1.0 all.1.1 (λ es0 eb0 set0 e0. in_item_of (record { elements = es0; before = eb0; header = h0; spelling = hb0; inner = s1; items = is0; item_bytes = ib0; elements-are = set0; header-is = subst (λ z. IsElement s0 z h0 hb0) e0 el; shaped = sh; items-are = items }) level0 it level1 (inner es eb set last-is)) in
    let item-scope = entry_scope false s1 stop last2 (length (b0 ++ hb)) n h.length (length (eb ++ rest)) n1 level1 stop-is in
    let seq-scope = entry_scope true s1 out 0 (length (q0 ++ hb0)) n h0.length (length (ib0 ++ (hb ++ (eb ++ rest)))) n2 level0 stop-is0 in
    record {
      elements = front.elements;
      path = front.path;
      last = front.last;
      nested = subst (λ z. Nested s z front.elements front.path front.last tail) text front.nested;
      top = front.top ∙ top_append n path2 item (seq ∷ []) (set_scope s0 out0 (number h0.tag)) ∙ ap (top_over n path2) item-scope;
      below = front.below ∙ below_append n path2 item (seq ∷ []) (set_scope s0 out0 (number h0.tag)) fs
          ∙ ap (λ z. below_over n path2 z (scope_at n seq ∷ set_scope s0 out0 (number h0.tag) ∷ fs)) item-scope
          ∙ ap (λ z. below_over n path2 (set_scope s1 stop last2) (z ∷ set_scope s0 out0 (number h0.tag) ∷ fs)) seq-scope
          ∙ ap (λ z. below_over n path2 (set_scope s1 stop last2) (sequence_scope s1 out ∷ set_scope s0 out0 z ∷ fs)) (sym k-is0);
      kept = front.kept;
      fits = front.fits;
    }
