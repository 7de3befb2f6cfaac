-- A walker whose fields are the machine's holds what there is to hold (`walker_holds`), and one that reports and holds it has
-- the machine's fields (`walks`). Stands on AnyText, FrontAtText, GrammarLeads and OneReading/OneReport.
use Rattle.std.proofs.Common.{◌≡◌, ℕ, ◌+◌, ◌-◌, ◌<◌, ◌≤◌, List, [], ◌∷◌, ◌++◌, length, Option, Some, None, refl, sym, ap, subst, ◌∙◌, arith, length-append}
use Rattle.sequence.specs.declared.coding.Coding.{Coding}
use Rattle.element.specs.declared.tag.Tag.{Tag}
use Rattle.element.specs.declared.header.Header.{Header}
use Rattle.element.specs.Numbers.{IsBytes}
use Rattle.element.specs.Header.{number}
use Rattle.sequence.specs.declared.level.Level.{Level}
use Rattle.sequence.specs.declared.level.Scope.{Scope}
use Rattle.sequence.specs.declared.fault.Fault.{Fault}
use Rattle.sequence.specs.declared.wanted.Want.{Want}
use Rattle.sequence.specs.declared.stage.Stage.{Stage}
use Rattle.sequence.specs.declared.stage.Stage.TheVariants as stages
use Rattle.sequence.specs.declared.walker.Walker.{Walker}
use Rattle.sequence.specs.Tree.{Elements}
use Rattle.sequence.specs.Open.{PathEntry, Tail, in_header, in_value, IsTail, header_tail, value_tail, IsItemTail, header_of_item, value_of_fragment, Nested, at_elements, in_sequence_of, in_item_of, Open}
use Rattle.sequence.specs.Wanted.{Values, kept_of}
use Rattle.sequence.specs.Rules.{Limits}
use Rattle.sequence.specs.FirstFault.{IsUnbroken, FirstFault}
use Rattle.sequence.specs.Walk.{Report, Reports, going, refused}
use Rattle.sequence.specs.machine.Machine.{set_scope, State, at, Mode, Heading, Reading, Stopped, run, start}
use Rattle.sequence.specs.machine.Keeping.{keeps, with_value}
use Rattle.sequence.specs.Stored.{wants_of, values_of}
use Rattle.sequence.specs.Holding.{scope_at, levels_at, with_started, header_started, value_due, pending_of, values_at, Holding, holding_of, Holds, of_all, before_fault}
use Rattle.sequence.specs.Fields.{scope_of, scopes_in, pending_by}
use Rattle.sequence.specs.Consumed.{holding_by}
use Rattle.sequence.specs.machine.Scopes.{top_of, below_of}
use Rattle.sequence.specs.machine.Spare.{head_room}
use Rattle.sequence.specs.machine.Holding.{IsIn}
use Rattle.sequence.specs.machine.State.{mode_of, top, below, state_of, kept_values, limits_of, walker_syntax, fault_by, fault_of, reported_by, HoldsFront, StandsAt}
use Rattle.sequence.specs.machine.Standing.{IsStopped, StandsIn, Stands}
use Rattle.sequence.proofs.GrammarLeads.TreesRun.{HasStopped}
use Rattle.sequence.proofs.GrammarLeads.LevelsArePaths.{IsFront}
use Rattle.sequence.proofs.MachineReports.FrontAtText.{all_over, all_is, open_due, due_open}
use Rattle.sequence.proofs.MachineReports.AnyText.{stands, goes_unbroken, stop_first, heading_at, reading_at, levels_is}
use Rattle.sequence.proofs.OneReading.OneReport.{one_fault, one_holding}

-- the levels of a path

levels_over : (n : ℕ) (path : List PathEntry) (s : Coding) (last : ℕ) → all_over n path (set_scope s None last) ≡ levels_at n path s last
levels_over n [] s last = refl
levels_over n (e ∷ path) s last = ap (λ z. scope_at n e ∷ z) (levels_over n path s last)

front_levels : {s : Coding} {ws : List Want} {values : Values} {n : ℕ} {b : List ℕ} {tail : Tail} {f : Scope} {fs : List Scope} (x : IsFront s ws values n b tail f fs) → f ∷ fs ≡ levels_at n x.path s x.last
front_levels {s = s} {n = n} {f = f} {fs = fs} x = sym (all_is n x.path (set_scope s None x.last) f fs x.top x.below) ∙ levels_over n x.path s x.last

value_at : (lim : Limits) (fs : List Scope) (path : List PathEntry) (h : Header) (v : List ℕ) (es : Elements) → length path ≡ length fs → with_value lim fs (number h.tag) v (kept_of lim.wanted es) ≡ values_at lim.wanted es path (in_value h v)
value_at lim [] (e ∷ path) h v es same = absurd (omega arith)
value_at lim (f ∷ fs) [] h v es same = absurd (omega arith)
value_at lim [] [] h v es same = refl
value_at lim (f ∷ fs) (e ∷ path) h v es same = refl

-- a text at which the machine stopped breaks a rule, and no other does

fault_breaks : {s : Coding} {lim : Limits} {b p u : List ℕ} {rule : ℕ} {tag : Tag} → FirstFault s lim b p u rule tag → IsUnbroken s lim b → ⊥
fault_breaks {p = p} {u = u} {rule = rule} {tag = tag} f ok = ok p u f.rest rule tag f.text f.breaks

pub record IsReported (reported : Report) (fault-is : Option Fault) (offset-is : ℕ) : Type 0 where
  pub fault : reported.fault ≡ fault-is
  pub offset : reported.offset ≡ offset-is

pub reports_going : (s : Coding) (lim : Limits) (b : List ℕ) (reported : Report) → IsUnbroken s lim b → Reports s lim b reported → IsReported reported None (length b)
reports_going s lim b reported ok (going fine o) = record { fault = refl; offset = refl }
reports_going s lim b reported ok (refused f o) = absurd (fault_breaks f ok)

pub reports_refused : (s : Coding) (lim : Limits) (b p u : List ℕ) (rule : ℕ) (tag : Tag) (reported : Report) → FirstFault s lim b p u rule tag → Reports s lim b reported → IsReported reported (Some (record { number = rule; offset = length p; tag = tag })) (length (p ++ u))
reports_refused s lim b p u rule tag reported f (going ok o) = absurd (fault_breaks f ok)
reports_refused s lim b p u rule tag reported f (refused {p = p2} {u = u2} {rule = rule2} {tag = tag2} g o) =
    let k = one_fault s lim b p2 p u2 u rule2 rule tag2 tag g f in
    record { fault = λ i. Some (record { number = k.2 i; offset = length (k.0 i); tag = k.3 i }); offset = λ i. length (k.0 i ++ k.1 i) }

-- a walker whose fields are the machine's at the bytes b
pub record Walks {V D : ℕ} (w : Walker V D) (b : List ℕ) : Type 0 where
  pub bytes : IsBytes b
  pub state : state_of w ≡ run (limits_of w) (start (walker_syntax w)) b
  pub values : values_of w.kept ≡ keeps (limits_of w) (start (walker_syntax w)) [] b

-- from the machine

scopes_are : (root : Scope) (round : List Scope) (ls : List Level) → scopes_in (root ∷ round) ls ≡ top_of root ls ∷ below_of root round ls
scopes_are root round [] = refl
scopes_are root round (l ∷ ls) = scopes_are (scope_of l) (root ∷ round) ls

no_header_kept : (header : List ℕ) → length header ≤ 0 → header ≡ []
no_header_kept [] few = refl
no_header_kept (x ∷ header) few = absurd (omega (arith, few))

module _ {V D : ℕ} (w : Walker V D) (b : List ℕ) (h : Walks w b) where
  run_is : (stage : Stage) → w.stage ≡ stage → run (limits_of w) (start (walker_syntax w)) b ≡ at (top w) (below w) w.offset (mode_of stage w.offset w.header.items)
  run_is stage e = sym h.state ∙ ap (λ z. at (top w) (below w) w.offset (mode_of z w.offset w.header.items)) e

  stands_in : (stage : Stage) → w.stage ≡ stage → StandsIn (walker_syntax w) (limits_of w) (keeps (limits_of w) (start (walker_syntax w)) [] b) (top w) (below w) w.offset (mode_of stage w.offset w.header.items) b
  stands_in stage e = subst (λ (z : State). Stands (walker_syntax w) (limits_of w) z (keeps (limits_of w) (start (walker_syntax w)) [] b) b) (run_is stage e) (stands (walker_syntax w) (limits_of w) b h.bytes)

  not_stopped : (stage : Stage) → w.stage ≡ stage → (HasStopped (mode_of stage w.offset w.header.items) → ⊥) → IsUnbroken (walker_syntax w) (limits_of w) b
  not_stopped stage e on = goes_unbroken (walker_syntax w) (limits_of w) b (λ k. on (subst (λ (z : State). HasStopped z.mode) (run_is stage e) k))

  levels_are : scopes_in (w.root ∷ []) w.levels.items ≡ top w ∷ below w
  levels_are = scopes_are w.root [] w.levels.items

  pending_is : (stage : Stage) → w.stage ≡ stage → holding_by w ≡ record { levels = top w ∷ below w; pending = pending_by stage w.header.items; values = kept_values w }
  pending_is stage e = λ i. record { levels = levels_are i; pending = pending_by (e i) w.header.items; values = kept_values w }

  holds_by : (stage : Stage) → w.stage ≡ stage → Holds (walker_syntax w) (limits_of w) b (holding_by w)
  holds_by stages.Heading e =
      let k = (stands_in stages.Heading e).1 in
      let y = heading_at (walker_syntax w) (limits_of w) (keeps (limits_of w) (start (walker_syntax w)) [] b) (top w) (below w) _ w.header.items b k in
      let levels = front_levels y.front in
      let values : kept_values w ≡ kept_of (wants_of w.kept) y.front.elements = h.values ∙ y.front.kept in
      let same : holding_by w ≡ holding_of (walker_syntax w) (wants_of w.kept) (length b) y.front.elements y.front.path y.front.last (in_header w.header.items) =
      pending_is stages.Heading e ∙ (λ i. record { levels = levels i; pending = header_started w.header.items; values = values i }) in
      subst (λ z. Holds (walker_syntax w) (limits_of w) b z) (sym same) (of_all (not_stopped stages.Heading e (λ z. z)) y.is_open)
  holds_by (stages.Value t n kept) e =
      let r = (stands_in (stages.Value t n kept) e).1 in
      let y = reading_at (walker_syntax w) (limits_of w) (keeps (limits_of w) (start (walker_syntax w)) [] b) (top w) (below w) t n b r in
      let levels : top w ∷ below w ≡ with_started (in_value r.h r.v) (levels_at (length b) y.front.path (walker_syntax w) y.front.last) = ap (λ z. z ∷ below w) r.top ∙ ap (with_started (in_value r.h r.v)) (front_levels y.front) in
      let values : kept_values w ≡ values_at (wants_of w.kept) y.front.elements y.front.path (in_value r.h r.v) =
      h.values ∙ r.kept ∙ ap (λ z. with_value (limits_of w) (below w) (number r.h.tag) r.v z) y.front.kept ∙ value_at (limits_of w) (below w) y.front.path r.h r.v y.front.elements (levels_is y.front) in
      let remaining : n ≡ r.h.length - length r.v = omega (arith, r.size) in
      let tag = r.tagged in
      let same : holding_by w ≡ holding_of (walker_syntax w) (wants_of w.kept) (length b) y.front.elements y.front.path y.front.last (in_value r.h r.v) =
      pending_is (stages.Value t n kept) e ∙ (λ i. record { levels = levels i; pending = value_due (tag i) (remaining i); values = values i }) in
      subst (λ z. Holds (walker_syntax w) (limits_of w) b z) (sym same) (of_all (not_stopped (stages.Value t n kept) e (λ z. z)) y.is_open)
  holds_by (stages.Stopped fault) e =
      let k : IsStopped (walker_syntax w) (limits_of w) (keeps (limits_of w) (start (walker_syntax w)) [] b) (top w) (below w) w.offset fault.number fault.offset fault.tag b = stands_in (stages.Stopped fault) e in
      let first = stop_first (walker_syntax w) (limits_of w) (keeps (limits_of w) (start (walker_syntax w)) [] b) (top w) (below w) w.offset fault.number fault.offset fault.tag b h.bytes (run_is (stages.Stopped fault) e) k in
      let x = open_due (walker_syntax w) (limits_of w) (keeps (limits_of w) (start (walker_syntax w)) [] b) (top w) (below w) k.before k.due in
      let due = due_open (walker_syntax w) (limits_of w) (keeps (limits_of w) (start (walker_syntax w)) [] b) (top w) (below w) k.before k.due in
      let levels = front_levels x in
      let values : kept_values w ≡ kept_of (wants_of w.kept) x.elements = h.values ∙ x.kept in
      let none : w.header.items ≡ [] = no_header_kept w.header.items (subst (λ z. length w.header.items ≤ head_room z) e w.few) in
      let same : holding_by w ≡ holding_of (walker_syntax w) (wants_of w.kept) (length k.before) x.elements x.path x.last (in_header []) =
      pending_is (stages.Stopped fault) e ∙ (λ i. record { levels = levels i; pending = header_started (none i); values = values i }) in
      subst (λ z. Holds (walker_syntax w) (limits_of w) b z) (sym same) (before_fault first due)

  pub walker_holds : Holds (walker_syntax w) (limits_of w) b (holding_by w)
  walker_holds = holds_by w.stage refl

-- what is held of a front

abbrev started_short : Tail → Type 0
started_short (in_header t) = Unit {0}
started_short (in_value h v) = length v < h.length

tail_short : {s : Coding} {last : ℕ} {tail : Tail} {t : List ℕ} → IsTail s last tail t → started_short tail
tail_short (header_tail part) = tt
tail_short (value_tail v el sh lt) = lt

item_tail_short : {s : Coding} {tail : Tail} {t : List ℕ} → IsItemTail s tail t → started_short tail
item_tail_short (header_of_item part) = tt
item_tail_short (value_of_fragment v it lt) = lt

nested_short : {s : Coding} {b : List ℕ} {es : Elements} {path : List PathEntry} {last : ℕ} {tail : Tail} → Nested s b es path last tail → started_short tail
nested_short (at_elements set tail) = tail_short tail
nested_short (in_sequence_of q level tail) = item_tail_short tail
nested_short (in_item_of q level it level2 deeper) = nested_short deeper

in_tail : (stage : Stage) (header : List ℕ) (tail : Tail) → fault_by stage ≡ None → pending_by stage header ≡ pending_of tail → started_short tail → IsIn stage header tail
in_tail stages.Heading header (in_header t) none e short = let same : header ≡ t = cc in ap in_header (sym same)
in_tail stages.Heading header (in_value h v) none e short = absurd cc
in_tail (stages.Value tag remaining kept) header (in_header t) none e short = absurd cc
in_tail (stages.Value tag remaining kept) header (in_value h v) none e short =
    let tags : tag ≡ h.tag = cc in
    let lefts : remaining ≡ h.length - length v = cc in
    (tags, omega (arith, lefts, short))
in_tail (stages.Stopped fault) header tail none e short = absurd cc

front_by : {V D : ℕ} (w : Walker V D) (n : ℕ) (es : Elements) (path : List PathEntry) (last : ℕ) (tail : Tail) → holding_by w ≡ holding_of (walker_syntax w) (wants_of w.kept) n es path last tail → HoldsFront w n es path last tail
front_by w n es path last tail e = record { levels = sym (scopes_are w.root [] w.levels.items) ∙ ap (λ (z : Holding). z.levels) e; values = ap (λ (z : Holding). z.values) e }

reports_unbroken : (s : Coding) (lim : Limits) (b : List ℕ) (reported : Report) → reported.fault ≡ None → Reports s lim b reported → IsUnbroken s lim b
reports_unbroken s lim b reported e (going ok o) = ok
reports_unbroken s lim b reported e (refused f o) = absurd cc

-- of a walker that refused nothing, and of one that refused

pub stands_going : {V D : ℕ} (w : Walker V D) (b : List ℕ) → StandsAt w b → (es : Elements) (path : List PathEntry) (last : ℕ) (tail : Tail) → fault_of w ≡ None → Open (walker_syntax w) b es path last tail → HoldsFront w (length b) es path last tail × IsIn w.stage w.header.items tail
stands_going w b h es path last tail none o =
    let e = one_holding (walker_syntax w) (limits_of w) b (holding_by w) (holding_of (walker_syntax w) (wants_of w.kept) (length b) es path last tail) h.holds (of_all (reports_unbroken (walker_syntax w) (limits_of w) b (reported_by w) none h.reports) o) in
    (front_by w (length b) es path last tail e, in_tail w.stage w.header.items tail none (ap (λ (z : Holding). z.pending) e) (nested_short o.nested))

stands_refused : {V D : ℕ} (w : Walker V D) (b : List ℕ) → StandsAt w b → (p u : List ℕ) (rule : ℕ) (tag : Tag) (es : Elements) (path : List PathEntry) (last : ℕ) → FirstFault (walker_syntax w) (limits_of w) b p u rule tag → Open (walker_syntax w) p es path last (in_header [])
    → HoldsFront w (length p) es path last (in_header [])
stands_refused w b h p u rule tag es path last f o =
    front_by w (length p) es path last (in_header [])
    (one_holding (walker_syntax w) (limits_of w) b (holding_by w) (holding_of (walker_syntax w) (wants_of w.kept) (length p) es path last (in_header [])) h.holds (before_fault f o))

-- back to the machine

record SameLevels (f g : Scope) (fs gs : List Scope) : Type 0 where
  first : f ≡ g
  rest : fs ≡ gs

same_levels : (f g : Scope) (fs gs : List Scope) → f ∷ fs ≡ g ∷ gs → SameLevels f g fs gs
same_levels f g fs gs e = record { first = cc; rest = cc }

mode_heading : (stage : Stage) (offset : ℕ) (header before t b : List ℕ) → IsIn stage header (in_header t) → offset ≡ length b → b ≡ before ++ t → mode_of stage offset header ≡ Heading (length before) t
mode_heading (stages.Value tag n kept) offset header before t b h p e = absurd h
mode_heading (stages.Stopped fault) offset header before t b h p e = absurd h
mode_heading stages.Heading offset header before t b h p e =
    let same : t ≡ header = cc in
    let begin : offset - length header ≡ length before = omega (arith, p, ap length e, length-append before t, ap length same) in
    λ i. Heading (begin i) (sym same i)

mode_reading : (stage : Stage) (offset : ℕ) (header v : List ℕ) (h : Header) (t : Tag) (n : ℕ) → IsIn stage header (in_value h v) → t ≡ h.tag → length v + n ≡ h.length → mode_of stage offset header ≡ Reading t n
mode_reading stages.Heading offset header v h t n k e size = absurd cc
mode_reading (stages.Stopped fault) offset header v h t n k e size = absurd k
mode_reading (stages.Value tag remaining kept) offset header v h t n k e size =
    let tags : tag ≡ t = k.0 ∙ sym e in
    let lefts : remaining ≡ n = omega (arith, k.1, size) in
    λ i. Reading (tags i) (lefts i)

mode_stopped : (stage : Stage) (offset : ℕ) (header : List ℕ) (fault : Fault) → fault_by stage ≡ Some fault → mode_of stage offset header ≡ Stopped fault.number fault.offset fault.tag
mode_stopped stages.Heading offset header fault e = absurd cc
mode_stopped (stages.Value tag n kept) offset header fault e = absurd cc
mode_stopped (stages.Stopped other) offset header fault e = let same : other ≡ fault = cc in λ i. Stopped (same i).number (same i).offset (same i).tag

record IsState {V D : ℕ} (w : Walker V D) (st : State) (values : Values) : Type 0 where
  state : state_of w ≡ st
  kept : kept_values w ≡ values

module _ {V D : ℕ} (w : Walker V D) (b : List ℕ) (h : StandsAt w b) where
  state_by : (f : Scope) (fs : List Scope) (p : ℕ) (m : Mode) → run (limits_of w) (start (walker_syntax w)) b ≡ at f fs p m → StandsIn (walker_syntax w) (limits_of w) (keeps (limits_of w) (start (walker_syntax w)) [] b) f fs p m b → IsState w (at f fs p m) (keeps (limits_of w) (start (walker_syntax w)) [] b)
  state_by f fs p (Heading begin t) e k =
      let ok = goes_unbroken (walker_syntax w) (limits_of w) b (λ z. subst (λ (st : State). HasStopped st.mode) e z) in
      let reported = reports_going (walker_syntax w) (limits_of w) b (reported_by w) ok h.reports in
      let y = heading_at (walker_syntax w) (limits_of w) (keeps (limits_of w) (start (walker_syntax w)) [] b) f fs begin t b k.1 in
      let g = stands_going w b h y.front.elements y.front.path y.front.last (in_header t) reported.fault y.is_open in
      let levels = same_levels (top w) f (below w) fs (g.0.levels ∙ sym (front_levels y.front)) in
      let mode = mode_heading w.stage w.offset w.header.items k.1.before t b g.1 reported.offset k.1.text ∙ ap (λ z. Heading z t) (sym k.1.offset) in
      let offset : w.offset ≡ p = reported.offset ∙ sym k.0 in
      record { state = λ i. at (levels.first i) (levels.rest i) (offset i) (mode i); kept = g.0.values ∙ sym y.front.kept }
  state_by f fs p (Reading t n) e k =
      let r = k.1 in
      let ok = goes_unbroken (walker_syntax w) (limits_of w) b (λ z. subst (λ (st : State). HasStopped st.mode) e z) in
      let reported = reports_going (walker_syntax w) (limits_of w) b (reported_by w) ok h.reports in
      let y = reading_at (walker_syntax w) (limits_of w) (keeps (limits_of w) (start (walker_syntax w)) [] b) f fs t n b k.1 in
      let g = stands_going w b h y.front.elements y.front.path y.front.last (in_value r.h r.v) reported.fault y.is_open in
      let levels = same_levels (top w) f (below w) fs (g.0.levels ∙ ap (with_started (in_value r.h r.v)) (sym (front_levels y.front)) ∙ ap (λ z. z ∷ fs) (sym r.top)) in
      let mode = mode_reading w.stage w.offset w.header.items r.v r.h t n g.1 r.tagged r.size in
      let offset : w.offset ≡ p = reported.offset ∙ sym k.0 in
      record {
        state = λ i. at (levels.first i) (levels.rest i) (offset i) (mode i);
        kept = g.0.values ∙ sym (r.kept ∙ ap (λ z. with_value (limits_of w) fs (number r.h.tag) r.v z) y.front.kept ∙ value_at (limits_of w) fs y.front.path r.h r.v y.front.elements (levels_is y.front));
      }
  state_by f fs p (Stopped rule offset t) e k =
      let values = keeps (limits_of w) (start (walker_syntax w)) [] b in
      let first = stop_first (walker_syntax w) (limits_of w) (keeps (limits_of w) (start (walker_syntax w)) [] b) f fs p rule offset t b h.bytes e k in
      let reported = reports_refused (walker_syntax w) (limits_of w) b k.before k.u rule t (reported_by w) first h.reports in
      let x = open_due (walker_syntax w) (limits_of w) (keeps (limits_of w) (start (walker_syntax w)) [] b) f fs k.before k.due in
      let due = due_open (walker_syntax w) (limits_of w) (keeps (limits_of w) (start (walker_syntax w)) [] b) f fs k.before k.due in
      let g = stands_refused w b h k.before k.u rule t x.elements x.path x.last first due in
      let levels = same_levels (top w) f (below w) fs (g.levels ∙ sym (front_levels x)) in
      let mode = mode_stopped w.stage w.offset w.header.items (record { number = rule; offset = length k.before; tag = t }) reported.fault ∙ ap (λ z. Stopped rule z t) (sym k.offset-is) in
      let offset-is : w.offset ≡ p = reported.offset ∙ sym k.received in
      record { state = λ i. at (levels.first i) (levels.rest i) (offset-is i) (mode i); kept = g.values ∙ sym x.kept }

  pub walks : Walks w b
  walks =
      let st = run (limits_of w) (start (walker_syntax w)) b in
      let k = state_by st.top st.below st.offset st.mode refl (stands (walker_syntax w) (limits_of w) b h.bytes) in
      record { bytes = h.bytes; state = k.state; values = k.kept }
