-- No front of a text that the machine went over has more open levels than the limit (`never_deeper`). Stands on FaultsStop,
-- FrontsRun, TreesRun, MachineReports/AnyText and MachineStands/HeaderDue.
use Rattle.std.proofs.Common.{◌≡◌, ℕ, ◌+◌, ◌-◌, ◌≤◌, ◌≢◌, ◌⊎◌, Bool, true, false, List, [], ◌∷◌, ◌++◌, length, Some, None, refl, sym, ap, subst, ◌∙◌, inl, inr, arith, append_assoc, append-nil, length-append}
use Rattle.sequence.specs.declared.coding.Coding.{Coding}
use Rattle.sequence.specs.declared.level.Scope.{Scope}
use Rattle.sequence.specs.Shape.{is_undefined}
use Rattle.sequence.specs.Tree.{Elements}
use Rattle.sequence.specs.Open.{PathEntry, Tail, in_header, header_tail, header_of_item, remaining_of, item_entry, text_of, entry_of, IsOpenLevel, IsInnermost, Nested, at_elements, in_sequence_of, in_item_of, Open}
use Rattle.sequence.specs.Wanted.{Values}
use Rattle.sequence.specs.Rules.{Limits, Broken, broken_due}
use Rattle.sequence.specs.machine.Machine.{set_scope, State, Mode, Heading, Reading, Stopped, spot_of, arrive, due, due_by, run, start}
use Rattle.sequence.specs.machine.Keeping.{keeps}
use Rattle.sequence.specs.machine.Standing.{IsBytes, StandsIn}
use Rattle.sequence.proofs.GrammarLeads.TreesRun.{HasStopped}
use Rattle.sequence.proofs.MachineStands.HeaderDue.{no_header}
use Rattle.sequence.proofs.GrammarLeads.FrontsRun.{top_over, below_over, nested_run}
use Rattle.sequence.proofs.GrammarLeads.FaultsStop.{depth_over, arrive_over}
use Rattle.sequence.proofs.MachineReports.AnyText.{stands, stays_stopped, front_bytes}

-- the same front without its tail
record Cut (s : Coding) (b : List ℕ) (path : List PathEntry) : Type 0 where
  text : List ℕ
  rest : List ℕ
  parts : b ≡ text ++ rest
  elements : Elements
  path2 : List PathEntry
  last : ℕ
  nested : Nested s text elements path2 last (in_header [])
  same : length path2 ≡ length path
  innermost : IsInnermost path2

less_remaining : (n received received2 : ℕ) → received2 ≤ received → remaining_of n received ≢ Some 0 → remaining_of n received2 ≢ Some 0
less_remaining n received received2 le some = by (is_undefined n) refl
  where
    by : (u : Bool) → is_undefined n ≡ u → remaining_of n received2 ≢ Some 0
    by true e same = let k : None ≡ Some 0 = rw e at same in cc
    by false e same =
        let k : Some (n - received2) ≡ Some 0 = rw e at same in
        let z : n - received2 ≡ 0 = cc in
        some (rw e (ap Some (let y : n - received ≡ 0 = omega (arith, z, le) in y)))

less_level : (n received received2 : ℕ) → received2 ≤ received → IsOpenLevel n received → IsOpenLevel n received2
less_level n received received2 le level = record { some = level.some; within = λ d. let w = level.within d in omega (arith, w, le) }

front_innermost : (path : List PathEntry) (e : PathEntry) (more : List PathEntry) → IsInnermost (path ++ e ∷ more) → IsInnermost path
front_innermost [] e more h = tt
front_innermost (d ∷ path) e more h = h

last_innermost : (path path2 : List PathEntry) (e e2 : PathEntry) (more more2 : List PathEntry) → length path2 ≡ length path → IsInnermost (path ++ e ∷ more) → IsInnermost path2 → (e.remaining ≢ Some 0 → e2.remaining ≢ Some 0) → IsInnermost (path2 ++ e2 ∷ more2)
last_innermost [] [] e e2 more more2 same h h2 f = f h
last_innermost [] (d ∷ path2) e e2 more more2 same h h2 f = absurd (omega arith)
last_innermost (d ∷ path) [] e e2 more more2 same h h2 f = absurd (omega arith)
last_innermost (d ∷ path) (d2 ∷ path2) e e2 more more2 same h h2 f = h2

cut : {s : Coding} {b : List ℕ} {es : Elements} {path : List PathEntry} {last : ℕ} {tail : Tail} → Nested s b es path last tail → IsInnermost path → Cut s b path
cut (at_elements {s = s} {es = es} {b = b} {t = t} set tail) h = record { text = b ++ []; rest = t; parts = ap (λ z. z ++ t) (sym (append-nil b)); elements = es; path2 = []; last = _; nested = at_elements set (header_tail (no_header s)); same = refl; innermost = tt }
cut (in_sequence_of q {t = t} level tail) i =
    let le : length (q.item_bytes ++ []) ≤ length (q.item_bytes ++ t) = omega (arith, length-append q.item_bytes t, length-append q.item_bytes []) in
    record {
      text = text_of q [];
      rest = t;
      parts = simp (append_assoc, append-nil);
      elements = _;
      path2 = _;
      last = _;
      nested = in_sequence_of q (less_level q.header.length (length (q.item_bytes ++ t)) (length (q.item_bytes ++ [])) le level) (header_of_item (no_header q.inner));
      same = refl;
      innermost = less_remaining q.header.length (length (q.item_bytes ++ t)) (length (q.item_bytes ++ [])) le i;
    }
cut (in_item_of q {k = k} {kb = kb} {b2 = b2} {path = path} {last = last} level it level2 deeper) i =
    let c = cut deeper (front_innermost path _ _ i) in
    let size : length b2 ≡ length c.text + length c.rest = ap length c.parts ∙ length-append c.text c.rest in
    let le2 : length c.text ≤ length b2 = omega (arith, size) in
    let le : length (q.item_bytes ++ (kb ++ c.text)) ≤ length (q.item_bytes ++ (kb ++ b2)) = omega (arith, le2, length-append q.item_bytes (kb ++ c.text), length-append q.item_bytes (kb ++ b2), length-append kb c.text, length-append kb b2) in
    record {
      text = text_of q (kb ++ c.text);
      rest = c.rest;
      parts = ap (λ z. text_of q (kb ++ z)) c.parts ∙ simp append_assoc;
      elements = _;
      path2 = c.path2 ++ (item_entry q.inner k.length (length c.text) c.last ∷ entry_of q (kb ++ c.text) ∷ []);
      last = _;
      nested = in_item_of q (less_level q.header.length _ _ le level) it (less_level k.length _ _ le2 level2) c.nested;
      same = omega (arith, c.same, length-append c.path2 (item_entry q.inner k.length (length c.text) c.last ∷ entry_of q (kb ++ c.text) ∷ []), length-append path (item_entry q.inner k.length (length b2) last ∷ entry_of q (kb ++ b2) ∷ []));
      innermost = last_innermost path c.path2 _ _ _ _ c.same i c.innermost (less_remaining k.length (length b2) (length c.text) le2);
    }

deep_in : (s : Coding) (lim : Limits) (values : Values) (f : Scope) (fs : List Scope) (p : ℕ) (m : Mode) (b : List ℕ) → StandsIn s lim values f fs p m b → length fs ≤ lim.depth
deep_in s lim values f fs p (Heading begin t) b h = h.1.due.levels.deep
deep_in s lim values f fs p (Reading t n) b h = h.1.levels.deep
deep_in s lim values f fs p (Stopped rule offset t) b h = h.due.levels.deep

due_below : (x : Broken) (f : Scope) (fs : List Scope) (p : ℕ) → (due_by x f fs p).below ≡ fs
due_below None f fs p = refl
due_below (Some x) f fs p = refl

start_is : (s : Coding) → start s ≡ arrive 0 (set_scope s None 0) []
unfolding arrive due
start_is s = refl

due_levels : (f : Scope) (fs : List Scope) (p : ℕ) → (due f fs p).below ≡ fs
unfolding due
due_levels f fs p = due_below (broken_due (spot_of f fs p)) f fs p

-- no front of what did not stop the walk is deeper than the limit
pub never_deeper : (s : Coding) (lim : Limits) (b : List ℕ) → IsBytes b → (HasStopped (run lim (start s) b).mode → ⊥) → (p rest : List ℕ) (es : Elements) (path : List PathEntry) (last : ℕ) (tail : Tail) → b ≡ p ++ rest → Open s p es path last tail → length path ≤ lim.depth
never_deeper s lim b bytes going-on p rest es path last tail e o = by (rw (start_is s) (nested_run lim c.nested refl None [] 0 (length c.text) tt (omega arith)))
  where
    c : Cut s p path
    c = cut o.nested o.innermost

    text : b ≡ c.text ++ (c.rest ++ rest)
    text = e ∙ ap (λ z. z ++ rest) c.parts ∙ append_assoc c.text c.rest rest

    by : (run lim (start s) c.text ≡ arrive (length c.text) (top_over (length c.text) c.path2 (set_scope s None c.last)) (below_over (length c.text) c.path2 (set_scope s None c.last) [])) ⊎ HasStopped (run lim (start s) c.text).mode → length path ≤ lim.depth
    by (inr k) = absurd (going-on (subst (λ (z : State). HasStopped z.mode) (sym (ap (run lim (start s)) text ∙ stays_stopped s lim c.text (c.rest ++ rest) k)) k))
    by (inl k) =
        let st = run lim (start s) c.text in
        let below-is : (run lim (start s) c.text).below ≡ below_over (length c.text) c.path2 (set_scope s None c.last) [] =
        ap (λ (z : State). z.below) (k ∙ arrive_over (length c.text) c.path2 s c.last c.innermost) ∙ due_levels (top_over (length c.text) c.path2 (set_scope s None c.last)) (below_over (length c.text) c.path2 (set_scope s None c.last) []) (length c.text) in
        let deep = deep_in s lim (keeps lim (start s) [] c.text) st.top st.below st.offset st.mode c.text (stands s lim c.text (front_bytes c.text (c.rest ++ rest) (subst IsBytes text bytes))) in
        omega (arith, deep, ap length below-is, depth_over (length c.text) c.path2 (set_scope s None c.last), c.same)
