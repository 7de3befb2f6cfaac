-- Where a walk ends with nothing open the text is a whole data set (`between_ok`), and else it ends too early, with this tag
-- (`between_fails`, `reading_fails`, `stopped_fails`). Stands on CodeIsMachine/InnermostLevel, GrammarLeads, MachineReports
-- and MachineStands/SoundHeader.
use Rattle.std.proofs.Common.{◌≡◌, ℕ, ◌-◌, ◌≤◌, ◌⊎◌, Bool, true, false, List, [], ◌∷◌, length, None, refl, sym, ap, subst, ◌∙◌, inl, inr, arith, append-nil, nat_eq, ◌&&◌, eqb-true}
use Rattle.std.proofs.lemmas.List.{nil_from_length}
use Rattle.sequence.specs.declared.coding.Coding.{Coding}
use Rattle.element.specs.declared.tag.Tag.{Tag}
use Rattle.sequence.specs.declared.level.Scope.{Scope}
use Rattle.sequence.specs.declared.level.Level.{Level}
use Rattle.sequence.specs.declared.fault.Fault.{Fault}
use Rattle.sequence.specs.declared.stage.Stage.TheVariants as stages
use Rattle.sequence.specs.declared.walker.Walker.{Walker}
use Rattle.sequence.specs.Tree.{Elements, DataSet}
use Rattle.sequence.specs.Open.{in_header, in_value, last_of}
use Rattle.sequence.specs.Wanted.{Values}
use Rattle.sequence.specs.Rules.{Limits}
use Rattle.sequence.specs.FirstFault.{EndFault, tag_of_tail}
use Rattle.sequence.specs.Ending.{IsWholeDataSet, Fails, breaks_rule, ends_early}
use Rattle.sequence.specs.machine.Machine.{set_scope, State, at, Heading, Reading, Stopped, arrive, due, run, start}
use Rattle.sequence.specs.machine.Scopes.{top_of, below_of}
use Rattle.sequence.specs.machine.Keeping.{keeps}
use Rattle.sequence.specs.machine.State.{mode_of, limits_of, walker_syntax}
use Rattle.sequence.specs.machine.Standing.{IsBytes, Reaches, at_root, IsHeading, IsReading, IsStopped, Stands}
use Rattle.sequence.proofs.GrammarLeads.TreesRun.{HasStopped, elements_run}
use Rattle.sequence.proofs.GrammarLeads.NoFrontIsDeeper.{never_deeper}
use Rattle.sequence.proofs.CodeIsMachine.InnermostLevel.{below_length}
use Rattle.sequence.proofs.MachineStands.SoundHeader.{and_true}
use Rattle.sequence.proofs.MachineReports.HeldIsState.{Walks}
use Rattle.sequence.proofs.MachineReports.AnyText.{stands, goes_unbroken, stop_first, heading_front, reading_front}

-- the machine stands at the beginning of an element of the data set itself
root_due : (s : Coding) (q last : ℕ) → arrive q (set_scope s None last) [] ≡ at (set_scope s None last) [] q (Heading q [])
unfolding arrive due
root_due s q last = refl

start_is : (s : Coding) → start s ≡ arrive 0 (set_scope s None 0) []
unfolding arrive due
start_is s = refl

-- after a whole data set
pub record IsRoot (st : State) : Type 0 where
  pub below : st.below ≡ []
  pub offset : ℕ
  pub mode : st.mode ≡ Heading offset []

whole_root : (s : Coding) (lim : Limits) (es : Elements) (b : List ℕ) → DataSet s 0 es b → IsRoot (run lim (start s) b) ⊎ HasStopped (run lim (start s) b).mode
whole_root s lim es b set = by (rw (start_is s) (elements_run lim set None [] 0 (length b) tt (omega arith)))
  where
    by : (run lim (start s) b ≡ arrive (length b) (set_scope s None (last_of 0 es)) []) ⊎ HasStopped (run lim (start s) b).mode → IsRoot (run lim (start s) b) ⊎ HasStopped (run lim (start s) b).mode
    by (inl e) = let k = e ∙ root_due s (length b) (last_of 0 es) in inl (record { below = ap (λ (z : State). z.below) k; offset = length b; mode = ap (λ (z : State). z.mode) k })
    by (inr h) = inr h

heading_ends : (s : Coding) (lim : Limits) (f : Scope) (fs : List Scope) (p begin : ℕ) (t b : List ℕ) → IsBytes b → run lim (start s) b ≡ at f fs p (Heading begin t) → IsHeading s lim (keeps lim (start s) [] b) f fs begin t b → ((fs ≡ []) × (t ≡ []) → ⊥) → EndFault s lim b (tag_of_tail (in_header t))
heading_ends s lim f fs p begin t b bytes state h open_still =
    let x = heading_front s lim (keeps lim (start s) [] b) f fs begin t b h in
    record {
      unbroken = goes_unbroken s lim b (λ k. subst (λ (z : State). HasStopped z.mode) state k);
      elements = x.elements;
      path = x.path;
      last = x.last;
      tail = in_header t;
      front = x.front;
      unfinished = λ es set. by es (whole_root s lim es b set);
      tagged = refl;
    }
  where
    by : (es : Elements) → IsRoot (run lim (start s) b) ⊎ HasStopped (run lim (start s) b).mode → ⊥
    by es (inl r) = open_still (ap (λ (z : State). z.below) (sym state) ∙ r.below, let k : Heading begin t ≡ Heading r.offset [] = ap (λ (z : State). z.mode) (sym state) ∙ r.mode in cc)
    by es (inr k) = subst (λ (z : State). HasStopped z.mode) state k

reading_ends : (s : Coding) (lim : Limits) (f : Scope) (fs : List Scope) (p : ℕ) (t : Tag) (n : ℕ) (b : List ℕ) → IsBytes b → run lim (start s) b ≡ at f fs p (Reading t n) → IsReading s lim (keeps lim (start s) [] b) f fs t n b → EndFault s lim b t
reading_ends s lim f fs p t n b bytes state r =
    let x = reading_front s lim (keeps lim (start s) [] b) f fs t n b r in
    record {
      unbroken = goes_unbroken s lim b (λ k. subst (λ (z : State). HasStopped z.mode) state k);
      elements = x.elements;
      path = x.path;
      last = x.last;
      tail = in_value r.h r.v;
      front = x.front;
      unfinished = λ es set. by es (whole_root s lim es b set);
      tagged = r.tagged;
    }
  where
    by : (es : Elements) → IsRoot (run lim (start s) b) ⊎ HasStopped (run lim (start s) b).mode → ⊥
    by es (inl root) = let k : Reading t n ≡ Heading root.offset [] = ap (λ (z : State). z.mode) (sym state) ∙ root.mode in absurd cc
    by es (inr k) = subst (λ (z : State). HasStopped z.mode) state k

root_whole : {s : Coding} {values : Values} {f : Scope} {b : List ℕ} (lim : Limits) → Reaches s lim.wanted values f [] b → length b ≤ lim.bytes → IsBytes b → (HasStopped (run lim (start s) b).mode → ⊥) → IsWholeDataSet s lim b
root_whole {s = s} {b = b} lim (at_root {es = es} set e k fits) short bytes going-on = record { elements = es; text = set; within = record { bytes = short; depth = λ p rest some path last tail same o. never_deeper s lim b bytes going-on p rest some path last tail same o; rooms = fits } }

-- where no header, value or level has started
heading_whole : (s : Coding) (lim : Limits) (values : Values) (f : Scope) (begin : ℕ) (b : List ℕ) → IsBytes b → (HasStopped (run lim (start s) b).mode → ⊥) → IsHeading s lim values f [] begin [] b → IsWholeDataSet s lim b
heading_whole s lim values f begin b bytes going-on h =
    let same : b ≡ h.before = h.text ∙ append-nil h.before in
    subst (IsWholeDataSet s lim) (sym same) (root_whole lim h.due.reaches h.due.levels.short (subst IsBytes same bytes) (λ k. going-on (subst (λ z. HasStopped (run lim (start s) z).mode) (sym same) k)))

-- of a walker

module _ {V D : ℕ} (w : Walker V D) (b : List ℕ) (h : Walks w b) where
  pub stopped_fails : (fault : Fault) → w.stage ≡ stages.Stopped fault → Fails (walker_syntax w) (limits_of w) b fault
  stopped_fails fault e =
      let lim = limits_of w in
      let s = walker_syntax w in
      let f = top_of w.root w.levels.items in
      let fs = below_of w.root [] w.levels.items in
      let m = mode_of w.stage w.offset w.header.items in
      let state : run lim (start s) b ≡ at f fs w.offset (Stopped fault.number fault.offset fault.tag) = sym h.state ∙ ap (λ z. at f fs w.offset (mode_of z w.offset w.header.items)) e in
      let k : IsStopped s lim (keeps lim (start s) [] b) f fs w.offset fault.number fault.offset fault.tag b = subst (λ z. Stands s lim z (keeps lim (start s) [] b) b) state (stands s lim b h.bytes) in
      let first = stop_first s lim (keeps lim (start s) [] b) f fs w.offset fault.number fault.offset fault.tag b h.bytes state k in
      subst (λ n. Fails s lim b (record { number = fault.number; offset = n; tag = fault.tag })) (sym k.offset-is) (breaks_rule first)

  pub reading_fails : (tag : Tag) (remaining : ℕ) (kept : Bool) → w.stage ≡ stages.Value tag remaining kept → Fails (walker_syntax w) (limits_of w) b (record { number = 20; offset = w.offset; tag = tag })
  reading_fails tag remaining kept e =
      let lim = limits_of w in
      let s = walker_syntax w in
      let f = top_of w.root w.levels.items in
      let fs = below_of w.root [] w.levels.items in
      let state : run lim (start s) b ≡ at f fs w.offset (Reading tag remaining) = sym h.state ∙ ap (λ z. at f fs w.offset (mode_of z w.offset w.header.items)) e in
      let k : (w.offset ≡ length b) × IsReading s lim (keeps lim (start s) [] b) f fs tag remaining b = subst (λ z. Stands s lim z (keeps lim (start s) [] b) b) state (stands s lim b h.bytes) in
      subst (λ n. Fails s lim b (record { number = 20; offset = n; tag = tag })) (sym k.0) (ends_early (reading_ends s lim f fs w.offset tag remaining b h.bytes state k.1))

  pub heading_fails : w.stage ≡ stages.Heading → ((w.levels.items ≡ []) × (w.header.items ≡ []) → ⊥) → Fails (walker_syntax w) (limits_of w) b (record { number = 20; offset = w.offset; tag = tag_of_tail (in_header w.header.items) })
  heading_fails e open_still =
      let lim = limits_of w in
      let s = walker_syntax w in
      let f = top_of w.root w.levels.items in
      let fs = below_of w.root [] w.levels.items in
      let state : run lim (start s) b ≡ at f fs w.offset (mode_of stages.Heading w.offset w.header.items) = sym h.state ∙ ap (λ z. at f fs w.offset (mode_of z w.offset w.header.items)) e in
      let k = subst (λ z. Stands s lim z (keeps lim (start s) [] b) b) state (stands s lim b h.bytes) in
      subst (λ n. Fails s lim b (record { number = 20; offset = n; tag = tag_of_tail (in_header w.header.items) })) (sym k.0)
      (ends_early (heading_ends s lim f fs w.offset _ w.header.items b h.bytes state k.1 (λ none. open_still (no_levels w.root w.levels.items none.0, none.1))))
    where
      no_levels : (root : Scope) (levels : List Level) → below_of root [] levels ≡ [] → levels ≡ []
      no_levels root [] e = refl
      no_levels root (l ∷ levels) e = absurd (let k = below_length root [] (l ∷ levels) in omega (arith, k, ap length e))

  pub heading_ok : w.stage ≡ stages.Heading → w.levels.items ≡ [] → w.header.items ≡ [] → IsWholeDataSet (walker_syntax w) (limits_of w) b
  heading_ok e none nothing =
      let lim = limits_of w in
      let s = walker_syntax w in
      let state : run lim (start s) b ≡ at w.root [] w.offset (Heading w.offset []) =
      sym h.state ∙ ap (λ z. at (top_of w.root w.levels.items) (below_of w.root [] w.levels.items) w.offset (mode_of z w.offset w.header.items)) e
      ∙ ap (λ z. at (top_of w.root z) (below_of w.root [] z) w.offset (mode_of stages.Heading w.offset w.header.items)) none
      ∙ ap (λ z. at w.root [] w.offset (mode_of stages.Heading w.offset z)) nothing ∙ ap (λ z. at w.root [] w.offset (Heading z [])) (whole_offset w.offset) in
      let k = subst (λ z. Stands s lim z (keeps lim (start s) [] b) b) state (stands s lim b h.bytes) in
      heading_whole s lim (keeps lim (start s) [] b) w.root w.offset b h.bytes (λ q. subst (λ (z : State). HasStopped z.mode) state q) k.1
    where
      whole_offset : (n : ℕ) → n - 0 ≡ n
      whole_offset n = omega arith

  pub between_ok : w.stage ≡ stages.Heading → (nat_eq (length w.header.items) 0 && nat_eq (length w.levels.items) 0) ≡ true → IsWholeDataSet (walker_syntax w) (limits_of w) b
  between_ok e k =
      let p = and_true (nat_eq (length w.header.items) 0) (nat_eq (length w.levels.items) 0) k in
      heading_ok e (nil_from_length w.levels.items (eqb-true _ 0 p.1)) (nil_from_length w.header.items (eqb-true _ 0 p.0))

  pub between_fails : (tag : Tag) (header : List ℕ) → w.stage ≡ stages.Heading → (nat_eq (length w.header.items) 0 && nat_eq (length w.levels.items) 0) ≡ false → header ≡ w.header.items → tag ≡ tag_of_tail (in_header header) → Fails (walker_syntax w) (limits_of w) b (record { number = 20; offset = w.offset; tag = tag })
  between_fails tag header e k same tag-is =
      subst (λ z. Fails (walker_syntax w) (limits_of w) b (record { number = 20; offset = w.offset; tag = z })) (sym (tag-is ∙ ap (λ z. tag_of_tail (in_header z)) same))
      (heading_fails e (λ none. let j : true ≡ false = sym (ap (λ z. nat_eq (length z) 0 && nat_eq (length w.levels.items) 0) none.1 ∙ ap (λ z. nat_eq (length z) 0) none.0) ∙ k in cc))
