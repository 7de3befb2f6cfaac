-- A front that breaks a rule stops the machine, at the header that is due there or before (`breaks_stop`). Stands on
-- FrontsRun, TreesRun and MachineStands/HeaderDue.
use Rattle.std.proofs.Common.{◌≡◌, ℕ, suc, ◌+◌, ◌-◌, ◌<◌, ◌≢◌, ◌⊎◌, Bool, true, false, ◌&&◌, List, [], ◌∷◌, ◌++◌, length, Option, Some, None, is_some, is_none, refl, sym, ap, subst, ◌∙◌, inl, inr, arith, append_assoc, append-nil, ne_eqb, if◌then◌else◌}
use Rattle.sequence.specs.Coding.{layout}
use Rattle.sequence.specs.declared.coding.Coding.{Coding}
use Rattle.element.specs.declared.tag.Tag.{Tag}
use Rattle.sequence.specs.declared.level.Scope.{Scope}
use Rattle.sequence.specs.Rules.{Limits}
use Rattle.sequence.specs.declared.spot.Spot.{Spot}
use Rattle.sequence.specs.Open.{PathEntry, IsInnermost}
use Rattle.sequence.specs.Rules.{Broken, broken_due, broken}
use Rattle.element.specs.Header.{is_whole}
use Rattle.sequence.specs.FirstFault.{near_of, spot_behind, Breaks}
use Rattle.sequence.specs.machine.Machine as machine
use Rattle.sequence.specs.machine.Machine.{set_scope, State, Mode, Heading, Reading, Stopped, at, nearer, nearest, less, is_empty, spot_of, stops_at, arrive, due, due_by, headed_by, headed, run, start}
use Rattle.sequence.proofs.GrammarLeads.TreesRun.{HasStopped, Goes, run_append, run_stopped}
use Rattle.element.specs.Header.{need}
use Rattle.sequence.proofs.MachineStands.HeaderDue.{none_none}
use Rattle.sequence.proofs.GrammarLeads.FrontsRun.{stop_at, top_over, below_over, nested_run}

less_stop : (o : Option ℕ) (q : ℕ) → less (stop_at q o) q ≡ o
less_stop None q = refl
less_stop (Some n) q = ap Some same
  where
    same : q + n - q ≡ n
    same = omega arith

less_nearer : (a b : Option ℕ) (q : ℕ) → less (nearer a b) q ≡ nearer (less a q) (less b q)
less_nearer None b q = refl
less_nearer (Some n) b q = refl

nearer_is : (a b : Option ℕ) → nearer a b ≡ (if is_some a then a else b)
nearer_is None b = refl
nearer_is (Some n) b = refl

near_over : (q : ℕ) (path : List PathEntry) (s : Coding) (last : ℕ) → less (nearer (top_over q path (set_scope s None last)).stop (nearest (below_over q path (set_scope s None last) []))) q ≡ near_of path
near_over q [] s last = refl
near_over q (e ∷ path) s last =
    less_nearer (stop_at q e.remaining) (nearer (top_over q path (set_scope s None last)).stop (nearest (below_over q path (set_scope s None last) []))) q
    ∙ ap (λ z. nearer z (less (nearer (top_over q path (set_scope s None last)).stop (nearest (below_over q path (set_scope s None last) []))) q)) (less_stop e.remaining q)
    ∙ ap (λ z. nearer e.remaining z) (near_over q path s last)
    ∙ nearer_is e.remaining (near_of path)

pub depth_over : (q : ℕ) (path : List PathEntry) (f : Scope) → length (below_over q path f []) ≡ length path
depth_over q [] f = refl
depth_over q (e ∷ path) f = ap suc (depth_over q path f)

none_remaining : (o : Option ℕ) (q : ℕ) → machine.is_none (stop_at q o) ≡ is_none o
none_remaining None q = refl
none_remaining (Some n) q = refl

and_true : (b : Bool) → (b && true) ≡ b
and_true true = refl
and_true false = refl

pub spot_over : (q : ℕ) (path : List PathEntry) (s : Coding) (last : ℕ) → spot_of (top_over q path (set_scope s None last)) (below_over q path (set_scope s None last) []) q ≡ spot_behind s path last q
spot_over q [] s last = refl
spot_over q (e ∷ path) s last =
    let near = near_over q (e ∷ path) s last in
    let ended : (machine.is_none (stop_at q e.remaining) && true) ≡ is_none e.remaining = and_true (machine.is_none (stop_at q e.remaining)) ∙ none_remaining e.remaining q in
    let depth = depth_over q (e ∷ path) (set_scope s None last) in
    λ i. record { syntax = e.syntax; in_sequence = e.in_sequence; open_ended = ended i; near = near i; last = e.last; depth = depth i; offset = q }

-- the innermost level does not end here
stays : (o : Option ℕ) (q : ℕ) → o ≢ Some 0 → stops_at (stop_at q o) q ≡ false
stays None q h = refl
stays (Some n) q h = ne_eqb (q + n) q (λ same. h (ap Some (let z : n ≡ 0 = omega arith in z)))

pub arrive_over : (q : ℕ) (path : List PathEntry) (s : Coding) (last : ℕ) → IsInnermost path → arrive q (top_over q path (set_scope s None last)) (below_over q path (set_scope s None last) []) ≡ due (top_over q path (set_scope s None last)) (below_over q path (set_scope s None last) []) q
unfolding arrive
arrive_over q [] s last h = refl
arrive_over q (e ∷ path) s last h = rw (stays e.remaining q h) refl

broken_nothing : (lim : Limits) (spot : Spot) → broken lim spot [] ≡ broken_due spot
unfolding broken is_whole need
broken_nothing lim spot = none_none (broken_due spot)

front_part : (s : Coding) (t u : List ℕ) → ((w : List ℕ) (y : ℕ) (z : List ℕ) → t ++ u ≡ w ++ y ∷ z → is_whole (layout s) w ≡ false) → 0 < length u → is_whole (layout s) t ≡ false
front_part s t [] one some = absurd (omega arith)
front_part s t (y ∷ u) one some = one t y u refl

-- a fault of the header at the offset n stopped it
abbrev pub StopsAt : ℕ → Mode → Type 0
StopsAt n (Stopped rule p t) = p ≡ n
StopsAt n (Heading begin t) = ⊥
StopsAt n (Reading t k) = ⊥

-- of a header whose bytes break a rule, the machine consumes no more
abbrev OneHeader : Coding → List ℕ → Type 0
OneHeader s u = (w : List ℕ) (y : ℕ) (z : List ℕ) → u ≡ w ++ y ∷ z → is_whole (layout s) w ≡ false

byte_stops : (lim : Limits) (f : Scope) (fs : List Scope) (begin p : ℕ) (t u : List ℕ) (x : ℕ × Tag) (b : Broken) → broken lim (spot_of f fs begin) t ≡ b → broken lim (spot_of f fs begin) (t ++ u) ≡ Some x → (0 < length u → is_whole (layout f.syntax) t ≡ false)
    → (0 < length u → StopsAt begin (run lim (at f fs p (Heading begin t)) u).mode) → StopsAt begin (run lim (headed_by b f fs p begin t) u).mode
unfolding run
byte_stops lim f fs begin p t u x (Some y) e breaks one go = rw (run_stopped lim f fs p (Stopped y.0 begin y.1) u tt) refl
byte_stops lim f fs begin p t [] x None e breaks one go = absurd (let k : Some x ≡ None = sym breaks ∙ ap (broken lim (spot_of f fs begin)) (append-nil t) ∙ e in cc)
byte_stops lim f fs begin p t (y ∷ u) x None e breaks one go = rw (one (omega arith)) (go (omega arith))

heading_stops : (lim : Limits) (f : Scope) (fs : List Scope) (begin p : ℕ) (t u : List ℕ) (x : ℕ × Tag) → 0 < length u → broken lim (spot_of f fs begin) (t ++ u) ≡ Some x → OneHeader f.syntax (t ++ u) → StopsAt begin (run lim (at f fs p (Heading begin t)) u).mode
unfolding run headed
heading_stops lim f fs begin p t [] x some breaks one = absurd (omega arith)
heading_stops lim f fs begin p t (y ∷ u) x some breaks one =
    let regrouped : t ++ y ∷ u ≡ (t ++ y ∷ []) ++ u = sym (append_assoc t (y ∷ []) u) in
    let breaks2 : broken lim (spot_of f fs begin) ((t ++ y ∷ []) ++ u) ≡ Some x = ap (broken lim (spot_of f fs begin)) (sym regrouped) ∙ breaks in
    let one2 : OneHeader f.syntax ((t ++ y ∷ []) ++ u) = subst (OneHeader f.syntax) regrouped one in
    byte_stops lim f fs begin (p + 1) (t ++ y ∷ []) u x (broken lim (spot_of f fs begin) (t ++ y ∷ [])) refl breaks2 (front_part f.syntax (t ++ y ∷ []) u one2) (λ more. heading_stops lim f fs begin (p + 1) (t ++ y ∷ []) u x more breaks2 one2)

due_stops : (lim : Limits) (f : Scope) (fs : List Scope) (p : ℕ) (u : List ℕ) (x : ℕ × Tag) (b : Broken) → broken_due (spot_of f fs p) ≡ b → broken lim (spot_of f fs p) u ≡ Some x → OneHeader f.syntax u → StopsAt p (run lim (due_by b f fs p) u).mode
due_stops lim f fs p u x (Some y) e breaks one = rw (run_stopped lim f fs p (Stopped y.0 p y.1) u tt) refl
due_stops lim f fs p [] x None e breaks one = absurd (let k : Some x ≡ None = sym breaks ∙ broken_nothing lim (spot_of f fs p) ∙ e in cc)
due_stops lim f fs p (y ∷ u) x None e breaks one = heading_stops lim f fs p p [] (y ∷ u) x (omega arith) breaks one

start_is : (s : Coding) → start s ≡ arrive 0 (set_scope s None 0) []
unfolding arrive due
start_is s = refl

goes_stops : (lim : Limits) (st mid : State) (u : List ℕ) (n : ℕ) → Goes st mid → StopsAt n (run lim mid u).mode → HasStopped st.mode ⊎ StopsAt n (run lim st u).mode
goes_stops lim st mid u n (inl e) h = inr (rw e h)
goes_stops lim st mid u n (inr g) h = inl g

-- a front that breaks a rule stops the machine, at the header that is due there or before
pub breaks_stop : (s : Coding) (lim : Limits) (p u : List ℕ) (number : ℕ) (tag : Tag) → Breaks s lim p u number tag → HasStopped (run lim (start s) p).mode ⊎ StopsAt (length p) (run lim (start s) (p ++ u)).mode
unfolding due
breaks_stop s lim p u number tag b =
    let f : Scope = top_over (length p) b.path (set_scope s None b.last) in
    let fs : List Scope = below_over (length p) b.path (set_scope s None b.last) [] in
    let spot = spot_over (length p) b.path s b.last in
    let goes = nested_run lim b.due.nested refl None [] 0 (length p) tt (omega arith) in
    let there : StopsAt (length p) (run lim (arrive (length p) (top_over (length p) b.path (set_scope s None b.last)) (below_over (length p) b.path (set_scope s None b.last) [])) u).mode =
    rw (arrive_over (length p) b.path s b.last b.due.innermost)
    (due_stops lim (top_over (length p) b.path (set_scope s None b.last)) (below_over (length p) b.path (set_scope s None b.last) []) (length p) u (number, tag) (broken_due (spot_of (top_over (length p) b.path (set_scope s None b.last)) (below_over (length p) b.path (set_scope s None b.last) []) (length p))) refl
    (ap (λ z. broken lim z u) spot ∙ b.breaks) (subst (λ z. OneHeader z.syntax u) (sym spot) b.one_header)) in
    rw (run_append lim (start s) p u, start_is s) (goes_stops lim (run lim (arrive 0 (set_scope s None 0) []) p) _ u (length p) goes there)
