-- Where the machine stands the text is a front whose path is the machine's levels: with a header due or started
-- (`front_heading`, `due_open`), and in a value (`front_reading`). Stands on GrammarLeads, MachineStands and the laws of
-- `element`.
use Rattle.std.proofs.Common.{◌≡◌, ℕ, ◌+◌, ◌-◌, ◌<◌, ◌≤◌, ◌≢◌, Bool, true, false, List, [], ◌∷◌, ◌++◌, length, Option, Some, None, is_some, nat_lt, refl, sym, ap, subst, ◌∙◌, arith, append_assoc, append-nil, length-append, ltb-false, leb-false, ne_eqb, eq-eqb, if◌then◌else◌}
use Rattle.std.proofs.lemmas.Bool.Decides.{nat_tests}
use Rattle.sequence.specs.Coding.{layout}
use Rattle.sequence.specs.declared.coding.Coding.{Coding}
use Rattle.element.specs.declared.header.Header.{Header}
use Rattle.element.specs.declared.size.Need.{Need}
use Rattle.element.specs.declared.size.Need.TheVariants.{Size, BadVr}
use Rattle.element.specs.Header.{number, tag_at, need, is_whole, has_size}
use Rattle.element.specs.Needs.{NeedIs, few, plain_eight, no_vr, refused, short_eight, long_twelve}
use Rattle.element.proofs.Public.{need_is}
use Rattle.sequence.specs.declared.level.Scope.{Scope}
use Rattle.sequence.specs.declared.spot.Spot.{Spot}
use Rattle.sequence.specs.declared.wanted.Want.{Want}
use Rattle.sequence.specs.declared.shape.Shape.TheVariants.{Value}
use Rattle.sequence.specs.Shape.{shape}
use Rattle.sequence.specs.Tree.{IsElement}
use Rattle.sequence.specs.Open.{PathEntry, Tail, in_header, in_value, header_tail, value_tail, IsItemTail, header_of_item, value_of_fragment, IsUnfinishedHeader, IsRemaining, AreRemaining, IsInnermost, Nested, at_elements, in_sequence_of, Open, sequence_entry}
use Rattle.sequence.specs.Wanted.{Values}
use Rattle.sequence.specs.Rules.{Limits, broken, passes, broken_need}
use Rattle.sequence.specs.machine.Machine.{set_scope, stops_at, less}
use Rattle.sequence.specs.machine.Standing.{Reaches, at_root, into_sequence, into_item, AreNested, LastsTo, AllLastTo, IsDue, BeginsIn, an_element, a_fragment}
use Rattle.sequence.proofs.MachineStands.SoundHeader.{if_some}
use Rattle.sequence.proofs.MachineStands.UnbrokenHeader.{BreaksNone, unbroken_is}
use Rattle.sequence.proofs.GrammarLeads.FrontsRun.{stop_at, top_over, below_over}
use Rattle.sequence.proofs.GrammarLeads.LevelsArePaths.{IsFront, plug, level_is, entry_scope}
use Rattle.sequence.proofs.MachineStands.HeaderConsumed.{set_of}
use Rattle.sequence.proofs.MachineStands.HeaderDue.{no_header}

-- a path from its levels

abbrev pub all_over : ℕ → List PathEntry → Scope → List Scope
all_over n path f = top_over n path f ∷ below_over n path f []

remaining_of_by : (n : ℕ) (remaining near : Option ℕ) → IsRemaining (stop_at n remaining) (stop_at n near) → IsRemaining remaining near
remaining_of_by n None near h = tt
remaining_of_by n (Some a) None h = tt
remaining_of_by n (Some a) (Some c) h = omega (arith, h)

over_some : (n : ℕ) (a c : Option ℕ) → (if is_some (stop_at n a) then stop_at n a else stop_at n c) ≡ stop_at n (if is_some a then a else c)
over_some n None c = refl
over_some n (Some a) c = refl

pub paths_remaining : (n : ℕ) (near : Option ℕ) (path : List PathEntry) (f : Scope) → AreNested (stop_at n near) (all_over n path f) → AreRemaining near path
paths_remaining n near [] f h = tt
paths_remaining n near (e ∷ path) f h =
    (remaining_of_by n e.remaining near h.0, paths_remaining n (if is_some e.remaining then e.remaining else near) path f (subst (λ z. AreNested z (all_over n path f)) (over_some n e.remaining near) h.1))

zero_stops : (n : ℕ) (o : Option ℕ) → o ≡ Some 0 → stops_at (stop_at n o) n ≡ false → ⊥
zero_stops n None e h = cc
zero_stops n (Some a) e h = let z : a ≡ 0 = cc in let s : n + a ≡ n = omega (arith, z) in let k : true ≡ false = sym (eq-eqb (n + a) n s) ∙ h in cc

pub paths_inside : (n : ℕ) (path : List PathEntry) (f : Scope) → stops_at (top_over n path f).stop n ≡ false → IsInnermost path
paths_inside n [] f h = tt
paths_inside n (e ∷ path) f h = λ z. zero_stops n e.remaining z h

pub all_is : (n : ℕ) (path : List PathEntry) (r f : Scope) (fs : List Scope) → top_over n path r ≡ f → below_over n path r [] ≡ fs → all_over n path r ≡ f ∷ fs
all_is n path r f fs t d = λ i. t i ∷ d i

-- a front is open, where its levels are nested and none ends there
pub open_of : {s : Coding} {ws : List Want} {values : Values} {n : ℕ} {b : List ℕ} {tail : Tail} {f : Scope} {fs : List Scope} (x : IsFront s ws values n b tail f fs) → AreNested None (f ∷ fs) → stops_at f.stop n ≡ false → Open s b x.elements x.path x.last tail
open_of {s = s} {n = n} {f = f} {fs = fs} x nested stays = record {
  nested = x.nested;
  remaining = paths_remaining n None x.path (set_scope s None x.last) (subst (λ z. AreNested None z) (sym (all_is n x.path (set_scope s None x.last) f fs x.top x.below)) nested);
  innermost = paths_inside n x.path (set_scope s None x.last) (ap (λ z. stops_at z.stop n) x.top ∙ stays);
}

-- where a header is due or started

front_sequence : {s : Coding} {ws : List Want} {values : Values} {f : Scope} {fs : List Scope} {before : List ℕ} (t : List ℕ) (end : Tail) (n : ℕ) → Reaches s ws values f fs before → f.in_sequence ≡ true → IsItemTail f.syntax end t → AllLastTo (f ∷ fs) n → n ≡ length (before ++ t) → IsFront s ws values n (before ++ t) end f fs
front_sequence t end n (at_root d e k fits) here tail hold n-is = absurd cc
front_sequence t end n (into_item r it len some set stop-is last-is b-is) here tail hold n-is = absurd cc
front_sequence {s = s} {ws = ws} {values = values} t end n (into_sequence {s1 = s1} {stop = stop} {out = out} {last = last} {fs = fs} {q = q} {h = h} {hb = hb} {inner = inner} {is = is} {ib = ib} {b = b} {k = k} r el sh len some items stop-is k-is b-is) here tail hold n-is =
    let text : q ++ (hb ++ (ib ++ t)) ≡ b ++ t = sym (ap (λ z. z ++ t) b-is ∙ simp append_assoc) in
    let n0 : n ≡ length (q ++ (hb ++ (ib ++ t))) = n-is ∙ ap length (sym text) in
    let n1 : n ≡ length (q ++ hb) + length (ib ++ t) = n0 ∙ omega (arith, length-append q (hb ++ (ib ++ t)), length-append hb (ib ++ t), length-append q hb) in
    let level = level_is stop (q ++ hb) (ib ++ t) n h.length n1 some stop-is hold.0 in
    let seq : PathEntry = sequence_entry inner h.length (length (ib ++ t)) in
    let front = plug (hb ++ (ib ++ t)) end (seq ∷ []) (number h.tag) n r n0 hold.1.0 hold.1.1 (λ es eb set e. in_sequence_of (record { elements = es; before = eb; header = h; spelling = hb; inner = inner; items = is; item_bytes = ib; elements-are = set; header-is = subst (λ z. IsElement s1 z h hb) e el; shaped = sh; items-are = items }) level tail) in
    let scope = entry_scope true inner stop 0 (length (q ++ hb)) n h.length (length (ib ++ t)) n1 level stop-is in
    record {
      elements = front.elements;
      path = front.path;
      last = front.last;
      nested = subst (λ z. Nested s z front.elements front.path front.last end) text front.nested;
      top = front.top ∙ scope;
      below = front.below ∙ ap (λ z. set_scope s1 out z ∷ fs) (sym k-is);
      kept = front.kept;
      fits = front.fits;
    }

front_elements : {s : Coding} {ws : List Want} {values : Values} {s1 : Coding} {stop : Option ℕ} {last : ℕ} {fs : List Scope} {before : List ℕ} (t : List ℕ) (n : ℕ) → Reaches s ws values (set_scope s1 stop last) fs before → IsUnfinishedHeader s1 t → LastsTo stop n → AllLastTo fs n → n ≡ length (before ++ t) → IsFront s ws values n (before ++ t) (in_header t) (set_scope s1 stop last) fs
front_elements {s1 = s1} {last = last} t n r tail hold all n-is =
    plug t (in_header t) [] last n r n-is hold all (λ es eb set e. subst (λ z. Nested s1 (eb ++ t) es [] z (in_header t)) (sym e) (at_elements set (header_tail tail)))

pub front_heading : (s : Coding) (ws : List Want) (values : Values) (f : Scope) (fs : List Scope) (before t : List ℕ) (n : ℕ) → Reaches s ws values f fs before → IsUnfinishedHeader f.syntax t → AllLastTo (f ∷ fs) n → n ≡ length (before ++ t) → IsFront s ws values n (before ++ t) (in_header t) f fs
front_heading s ws values f fs before t n r tail hold n-is = by f.in_sequence refl
  where
    by : (q : Bool) → f.in_sequence ≡ q → IsFront s ws values n (before ++ t) (in_header t) f fs
    by true here = front_sequence t (in_header t) n r here (header_of_item tail) hold n-is
    by false here =
        let is = set_of f here in
        subst (λ z. IsFront s ws values n (before ++ t) (in_header t) z fs) (sym is) (front_elements t n (subst (λ z. Reaches s ws values z fs before) is r) tail hold.0 hold.1 n-is)

front_value : {s : Coding} {ws : List Want} {values : Values} {s1 : Coding} {stop : Option ℕ} {last : ℕ} {fs : List Scope} {before : List ℕ} (h : Header) (hb v : List ℕ) (n : ℕ) → Reaches s ws values (set_scope s1 stop last) fs before → IsElement s1 last h hb → shape s1 h ≡ Value → length v < h.length → LastsTo stop n → AllLastTo fs n → n ≡ length (before ++ (hb ++ v))
    → IsFront s ws values n (before ++ (hb ++ v)) (in_value h v) (set_scope s1 stop last) fs
front_value {s1 = s1} {last = last} h hb v n r el sh lt hold all n-is =
    plug (hb ++ v) (in_value h v) [] last n r n-is hold all (λ es eb set e. subst (λ z. Nested s1 (eb ++ (hb ++ v)) es [] z (in_value h v)) (sym e) (at_elements set (value_tail v (subst (λ z. IsElement s1 z h hb) e el) sh lt)))

pub front_reading : {s : Coding} {ws : List Want} {values : Values} {f : Scope} {fs : List Scope} {before : List ℕ} (h : Header) (hb v : List ℕ) (n : ℕ) → Reaches s ws values f fs before → BeginsIn ws f fs h hb → length v < h.length → AllLastTo (f ∷ fs) n → n ≡ length (before ++ (hb ++ v))
    → IsFront s ws values n (before ++ (hb ++ v)) (in_value h v) f fs
front_reading {s} {ws} {values} {f} {fs} {before} h hb v n r (an_element here el sh fits) lt hold n-is =
    let is = set_of f here in
    subst (λ z. IsFront s ws values n (before ++ (hb ++ v)) (in_value h v) z fs) (sym is) (front_value h hb v n (subst (λ z. Reaches s ws values z fs before) is r) el sh lt hold.0 hold.1 n-is)
front_reading h hb v n r (a_fragment here it) lt hold n-is = front_sequence (hb ++ v) (in_value h v) n r here (value_of_fragment v it lt) hold n-is

-- a header that is not whole is inside the nearest end

pub passes_less : (o : Option ℕ) (j k : ℕ) → passes o k ≡ false → j ≤ k → passes o j ≡ false
passes_less None j k e le = refl
passes_less (Some a) j k e le = let f = ltb-false a k e in ltb_no a j (omega (arith, f, le))
  where
    ltb_no : (a j : ℕ) → j ≤ a → nat_lt a j ≡ false
    ltb_no a j le = grind (arith, nat_tests)

inside_by : (lim : Limits) (spot : Spot) (t : List ℕ) {n : Need} → NeedIs (layout spot.syntax) t n → need (layout spot.syntax) t ≡ n → has_size n (length t) ≡ false → n ≢ BadVr → BreaksNone lim spot t → passes spot.near (length t + 1) ≡ false
inside_by lim spot t (few lt) e part good ok = passes_less spot.near (length t + 1) 8 (if_some (passes spot.near 8) _ ok.due_ok).0 (omega (arith, lt))
inside_by lim spot t (plain_eight ge p) e part good ok = let lt = leb-false 8 (length t) part in passes_less spot.near (length t + 1) 8 (if_some (passes spot.near 8) _ ok.due_ok).0 (omega (arith, lt))
inside_by lim spot t (no_vr ge p lt) e part good ok = passes_less spot.near (length t + 1) 8 (if_some (passes spot.near 8) _ ok.due_ok).0 (omega (arith, lt))
inside_by lim spot t (refused ge p c) e part good ok = absurd (good refl)
inside_by lim spot t (short_eight ge p c h) e part good ok = let lt = leb-false 8 (length t) part in passes_less spot.near (length t + 1) 8 (if_some (passes spot.near 8) _ ok.due_ok).0 (omega (arith, lt))
inside_by lim spot t (long_twelve ge p c h) e part good ok =
    let lt = leb-false 12 (length t) part in
    let n : broken_need spot (Size 12) (tag_at t) ≡ None = ap (λ z. broken_need spot z (tag_at t)) (sym e) ∙ ok.vr_ok ge p in
    passes_less spot.near (length t + 1) 12 (if_some (passes spot.near 12) _ n).0 (omega (arith, lt))

pub inside : (lim : Limits) (spot : Spot) (t : List ℕ) → IsUnfinishedHeader spot.syntax t → broken lim spot t ≡ None → passes spot.near (length t + 1) ≡ false
unfolding is_whole
inside lim spot t tail ok = inside_by lim spot t (need_is (layout spot.syntax) t) refl tail.part tail.good (unbroken_is lim spot t ok)

pub lasts_after : (o : Option ℕ) (p n : ℕ) → LastsTo o p → passes (less o p) n ≡ false → LastsTo o (p + n)
lasts_after None p n h e = tt
lasts_after (Some e) p n h g = let f = ltb-false (e - p) n g in omega (arith, f, h)

pub less_all : (fs : List Scope) (m n : ℕ) → AllLastTo fs n → m ≤ n → AllLastTo fs m
less_all [] m n h le = tt
less_all (f ∷ fs) m n h le = (by f.stop h.0, less_all fs m n h.1 le)
  where
    by : (o : Option ℕ) → LastsTo o n → LastsTo o m
    by None h = tt
    by (Some e) h = omega (arith, h, le)

pub past_stays : (o : Option ℕ) (n : ℕ) → LastsTo o (n + 1) → stops_at o n ≡ false
past_stays None n h = refl
past_stays (Some e) n h = ne_eqb e n (λ same. absurd (omega (arith, h, same)))

-- after a text a header is due
pub open_due : (s : Coding) (lim : Limits) (values : Values) (f : Scope) (fs : List Scope) (b : List ℕ) → IsDue s lim values f fs b → IsFront s lim.wanted values (length b) b (in_header []) f fs
open_due s lim values f fs b d =
    let n : length b ≡ length (b ++ []) = ap length (sym (append-nil b)) in
    subst (λ z. IsFront s lim.wanted values (length b) z (in_header []) f fs) (append-nil b) (front_heading s lim.wanted values f fs b [] (length b) d.reaches (no_header f.syntax) d.levels.hold n)

pub due_open : (s : Coding) (lim : Limits) (values : Values) (f : Scope) (fs : List Scope) (b : List ℕ) (d : IsDue s lim values f fs b) → Open s b (open_due s lim values f fs b d).elements (open_due s lim values f fs b d).path (open_due s lim values f fs b d).last (in_header [])
due_open s lim values f fs b d = open_of (open_due s lim values f fs b d) d.levels.nested d.stays
