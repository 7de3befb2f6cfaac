-- The machine stands at any text (`stands`) and reports what is to be reported of it (`reports`); where it continues no rule is
-- broken (`goes_unbroken`), and where it stops the first fault is (`stop_first`). Stands on FrontAtText, GrammarLeads and
-- MachineStands.
use Rattle.std.proofs.Common.{◌≡◌, ℕ, zero, suc, ◌+◌, ◌*◌, ◌≤◌, ◌⊎◌, Bool, true, false, List, [], ◌∷◌, ◌++◌, length, Some, None, is_some, refl, sym, ap, subst, ◌∙◌, inl, inr, arith, lit<, append_assoc, append-nil, length-append, if◌then◌else◌}
use Rattle.sequence.specs.Coding.{layout}
use Rattle.sequence.specs.declared.coding.Coding.{Coding}
use Rattle.element.specs.declared.tag.Tag.{Tag}
use Rattle.element.specs.declared.header.Header.{Header}
use Rattle.element.specs.Header.{number, is_marker, is_whole}
use Rattle.sequence.specs.declared.level.Scope.{Scope}
use Rattle.sequence.specs.declared.spot.Spot.{Spot}
use Rattle.sequence.specs.declared.wanted.Want.{Want}
use Rattle.sequence.specs.Tree.{Elements, nothing}
use Rattle.sequence.specs.Open.{PathEntry, Tail, in_header, in_value, IsRemaining, Open}
use Rattle.sequence.specs.Holding.{started_in}
use Rattle.sequence.specs.Wanted.{Values, is_wanted, kept_of, size_of_values, started_bytes, held_of}
use Rattle.sequence.specs.Rules.{Limits, broken}
use Rattle.sequence.specs.FirstFault.{IsNoLater, spot_behind, Breaks, IsUnbroken, FirstFault}
use Rattle.sequence.specs.Walk.{Reports, going, refused}
use Rattle.sequence.specs.machine.Machine.{set_scope, spot_of, arrive, due, State, at, Mode, Heading, Reading, Stopped, next, run, start}
use Rattle.sequence.specs.machine.Reported.{reported_in}
use Rattle.sequence.specs.machine.Keeping.{keep, keeps, with_value, wanted_at}
use Rattle.sequence.specs.Fields.{but_last}
use Rattle.sequence.specs.machine.Standing.{IsBytes, at_root, AreNested, LastsTo, AllLastTo, IsHeading, IsReading, IsStopped, StandsIn, Stands}
use Rattle.sequence.proofs.GrammarLeads.TreesRun.{HasStopped, run_append, run_stopped}
use Rattle.sequence.proofs.MachineStands.HeaderDue.{arrive_stands}
use Rattle.sequence.proofs.MachineStands.OneMoreByte.{next_stands}
use Rattle.sequence.proofs.GrammarLeads.FrontsRun.{top_over}
use Rattle.sequence.proofs.GrammarLeads.LevelsArePaths.{IsFront}
use Rattle.sequence.proofs.GrammarLeads.FaultsStop.{StopsAt, breaks_stop, spot_over, depth_over}
use Rattle.sequence.proofs.MachineReports.FrontAtText.{open_of, front_heading, front_reading, inside, lasts_after, less_all, past_stays, open_due, due_open}
use Rattle.sequence.proofs.MachineStands.NestedLevels.{all_last, nearest_lasts}

-- the machine stands at every text

start_stands : (s : Coding) (lim : Limits) → Stands s lim (start s) [] []
unfolding arrive due
start_stands s lim = arrive_stands {s = s} {values = []} {f = set_scope s None 0} {fs = []} {b = []} lim 0 refl (at_root nothing refl refl tt) (record { nested = (tt, tt); hold = (tt, tt); deep = omega arith; short = omega arith })

pub front_bytes : (a c : List ℕ) → IsBytes (a ++ c) → IsBytes a
front_bytes [] c h i = lit< tt
front_bytes (x ∷ a) c h zero = h zero
front_bytes (x ∷ a) c h (suc i) = front_bytes a c (λ k. h (suc k)) i

run_stands : (s : Coding) (lim : Limits) (st : State) (values : Values) (a b : List ℕ) → IsBytes b → Stands s lim st values a → Stands s lim (run lim st b) (keeps lim st values b) (a ++ b)
unfolding run keeps
run_stands s lim st values a [] bytes h = subst (λ z. Stands s lim st values z) (sym (append-nil a)) h
run_stands s lim st values a (x ∷ b) bytes h =
    subst (λ z. Stands s lim (run lim (next lim st x) b) (keeps lim (next lim st x) (keep lim st values x) b) z) (append_assoc a (x ∷ []) b)
    (run_stands s lim (next lim st x) (keep lim st values x) (a ++ x ∷ []) b (λ i. bytes (suc i)) (next_stands s lim st values a x h (bytes zero)))

pub stands : (s : Coding) (lim : Limits) (b : List ℕ) → IsBytes b → Stands s lim (run lim (start s) b) (keeps lim (start s) [] b) b
stands s lim b bytes = run_stands s lim (start s) [] [] b bytes (start_stands s lim)

-- a stop is for good

stopped_on : (lim : Limits) (st : State) (more : List ℕ) → HasStopped st.mode → run lim st more ≡ st
stopped_on lim st more h = run_stopped lim st.top st.below st.offset st.mode more h

pub stays_stopped : (s : Coding) (lim : Limits) (a c : List ℕ) → HasStopped (run lim (start s) a).mode → run lim (start s) (a ++ c) ≡ run lim (start s) a
stays_stopped s lim a c h = run_append lim (start s) a c ∙ stopped_on lim (run lim (start s) a) c h

pub stops_stopped : (n : ℕ) (m : Mode) → StopsAt n m → HasStopped m
stops_stopped n (Stopped rule p t) h = tt
stops_stopped n (Heading begin t) h = absurd h
stops_stopped n (Reading t k) h = absurd h

stop_offset : (n : ℕ) (rule p : ℕ) (t : Tag) (m : Mode) → m ≡ Stopped rule p t → StopsAt n m → p ≡ n
stop_offset n rule p t m e h = subst (StopsAt n) e h

offset_by : (s : Coding) (lim : Limits) (values : Values) (f : Scope) (fs : List Scope) (p : ℕ) (m : Mode) (b : List ℕ) → StandsIn s lim values f fs p m b → p ≤ length b
offset_by s lim values f fs p (Heading begin t) b h = omega (arith, h.0)
offset_by s lim values f fs p (Reading t n) b h = omega (arith, h.0)
offset_by s lim values f fs p (Stopped rule offset t) b h = omega (arith, h.received, ap length h.text, length-append (h.before ++ h.u) h.rest)

offset_within : (s : Coding) (lim : Limits) (b : List ℕ) → IsBytes b → (run lim (start s) b).offset ≤ length b
offset_within s lim b bytes =
    let st = run lim (start s) b in
    offset_by s lim (keeps lim (start s) [] b) st.top st.below st.offset st.mode b (stands s lim b bytes)

-- a text at which the machine continues breaks no rule
pub goes_unbroken : (s : Coding) (lim : Limits) (b : List ℕ) → (HasStopped (run lim (start s) b).mode → ⊥) → IsUnbroken s lim b
goes_unbroken s lim b going-on q v more n t e breaks = by (breaks_stop s lim q v n t breaks)
  where
    by : HasStopped (run lim (start s) q).mode ⊎ StopsAt (length q) (run lim (start s) (q ++ v)).mode → ⊥
    by (inl h) =
        let text : b ≡ q ++ (v ++ more) = e ∙ append_assoc q v more in
        going-on (subst (λ (z : State). HasStopped z.mode) (sym (ap (run lim (start s)) text ∙ stays_stopped s lim q (v ++ more) h)) h)
    by (inr h) = let k = stops_stopped (length q) _ h in going-on (subst (λ (z : State). HasStopped z.mode) (sym (ap (run lim (start s)) e ∙ stays_stopped s lim (q ++ v) more k)) k)

-- where it stopped, the first fault is

pub spot_is : {s : Coding} {ws : List Want} {values : Values} {b : List ℕ} {tail : Tail} {f : Scope} {fs : List Scope} (x : IsFront s ws values (length b) b tail f fs) → spot_of f fs (length b) ≡ spot_behind s x.path x.last (length b)
spot_is {s = s} {b = b} {f = f} {fs = fs} x =
    ap (λ z. spot_of z fs (length b)) (sym x.top) ∙ ap (λ z. spot_of (top_over (length b) x.path (set_scope s None x.last)) z (length b)) (sym x.below) ∙ spot_over (length b) x.path s x.last

pub stop_breaks : (s : Coding) (lim : Limits) (values : Values) (f : Scope) (fs : List Scope) (p rule offset : ℕ) (t : Tag) (b : List ℕ) (h : IsStopped s lim values f fs p rule offset t b) → Breaks s lim h.before h.u rule t
stop_breaks s lim values f fs p rule offset t b h =
    let x = open_due s lim values f fs h.before h.due in
    let spot = spot_is x in
    record {
      elements = x.elements;
      path = x.path;
      last = x.last;
      due = due_open s lim values f fs h.before h.due;
      one_header = λ w y z same. subst (λ (z : Spot). is_whole (layout z.syntax) w ≡ false) spot (h.one_header w y z same).part;
      breaks = subst (λ z. broken lim z h.u ≡ Some (rule, t)) (ap (λ z. spot_of f fs z) h.offset-is ∙ spot) h.breaks;
    }

pub stop_first : (s : Coding) (lim : Limits) (values : Values) (f : Scope) (fs : List Scope) (p rule offset : ℕ) (t : Tag) (b : List ℕ) → IsBytes b → run lim (start s) b ≡ at f fs p (Stopped rule offset t) → (h : IsStopped s lim values f fs p rule offset t b) → FirstFault s lim b h.before h.u rule t
stop_first s lim values f fs p rule offset t b bytes state h = record {
  rest = h.rest;
  text = h.text;
  breaks = stop_breaks s lim values f fs p rule offset t b h;
  first = λ q v more n u e breaks. by q v more e (breaks_stop s lim q v n u breaks);
}
  where
    by : (q v more : List ℕ) → b ≡ (q ++ v) ++ more → HasStopped (run lim (start s) q).mode ⊎ StopsAt (length q) (run lim (start s) (q ++ v)).mode → IsNoLater h.before h.u q v
    by q v more e (inl k) =
        let text : b ≡ q ++ (v ++ more) = e ∙ append_assoc q v more in
        let same : run lim (start s) b ≡ run lim (start s) q = ap (run lim (start s)) text ∙ stays_stopped s lim q (v ++ more) k in
        let offset-is : p ≡ (run lim (start s) q).offset = ap (λ (z : State). z.offset) (sym state ∙ same) in
        let far = offset_within s lim q (front_bytes q (v ++ more) (subst IsBytes text bytes)) in
        record { offset = omega (arith, far, offset-is, h.received, length-append h.before h.u); end = omega (arith, far, offset-is, h.received, length-append q v) }
    by q v more e (inr k) =
        let stopped = stops_stopped (length q) _ k in
        let same : run lim (start s) b ≡ run lim (start s) (q ++ v) = ap (run lim (start s)) e ∙ stays_stopped s lim (q ++ v) more stopped in
        let offset-is : p ≡ (run lim (start s) (q ++ v)).offset = ap (λ (z : State). z.offset) (sym state ∙ same) in
        let far = offset_within s lim (q ++ v) (front_bytes (q ++ v) more (subst IsBytes e bytes)) in
        let begin : offset ≡ length q = stop_offset (length q) rule offset t _ (ap (λ (z : State). z.mode) (sym same ∙ state)) k in
        record { offset = omega (arith, begin, h.offset-is); end = omega (arith, far, offset-is, h.received) }

-- what is reported

pub levels_is : {s : Coding} {ws : List Want} {values : Values} {n : ℕ} {b : List ℕ} {tail : Tail} {f : Scope} {fs : List Scope} (x : IsFront s ws values n b tail f fs) → length x.path ≡ length fs
levels_is {s = s} {n = n} {fs = fs} x = sym (depth_over n x.path (set_scope s None x.last)) ∙ ap length x.below

no_value : (ws : List Want) (path : List PathEntry) (t : List ℕ) → started_bytes ws path (in_header t) ≡ 0
no_value ws [] t = refl
no_value ws (e ∷ path) t = refl

-- what is open at the end of the text
pub record OpenEnd (s : Coding) (lim : Limits) (values : Values) (b : List ℕ) (tail : Tail) (fs : List Scope) : Type 0 where
  pub elements : Elements
  pub path : List PathEntry
  pub last : ℕ
  pub front : Open s b elements path last tail
  pub kept : values ≡ kept_of lim.wanted elements
  pub levels : length path ≡ length fs

-- what is open at the end of the text, with its levels
pub record FrontAt (s : Coding) (ws : List Want) (values : Values) (b : List ℕ) (tail : Tail) (f : Scope) (fs : List Scope) : Type 0 where
  pub front : IsFront s ws values (length b) b tail f fs
  pub is_open : Open s b front.elements front.path front.last tail

pub heading_at : (s : Coding) (lim : Limits) (values : Values) (f : Scope) (fs : List Scope) (begin : ℕ) (t b : List ℕ) → IsHeading s lim values f fs begin t b → FrontAt s lim.wanted values b (in_header t) f fs
heading_at s lim values f fs begin t b h =
    let near = nearest_lasts (length h.before) (f ∷ fs) h.due.levels.hold in
    let spot : spot_of f fs begin ≡ spot_of f fs (length h.before) = ap (λ z. spot_of f fs z) h.offset in
    let unbroken = subst (λ z. broken lim z t ≡ None) spot (h.unbroken t [] (sym (append-nil t))) in
    let far = inside lim (spot_of f fs (length h.before)) t h.tail unbroken in
    let past = all_last (length h.before + (length t + 1)) (f ∷ fs) (lasts_after _ (length h.before) (length t + 1) near far) h.due.levels.nested in
    let n : length b ≡ length (h.before ++ t) = ap length h.text in
    let one : length b + 1 ≡ length h.before + (length t + 1) = omega (arith, n, length-append h.before t) in
    let past2 = subst (AllLastTo (f ∷ fs)) (sym one) past in
    let x = subst (λ z. IsFront s lim.wanted values (length b) z (in_header t) f fs) (sym h.text) (front_heading s lim.wanted values f fs h.before t (length b) h.due.reaches h.tail (less_all (f ∷ fs) (length b) (length b + 1) past2 (omega arith)) n) in
    record { front = x; is_open = open_of x h.due.levels.nested (past_stays f.stop (length b) past2.0) }

pub heading_front : (s : Coding) (lim : Limits) (values : Values) (f : Scope) (fs : List Scope) (begin : ℕ) (t b : List ℕ) → IsHeading s lim values f fs begin t b → OpenEnd s lim values b (in_header t) fs
heading_front s lim values f fs begin t b h =
    let y = heading_at s lim values f fs begin t b h in
    let x = y.front in
    record { elements = x.elements; path = x.path; last = x.last; front = y.is_open; kept = x.kept; levels = levels_is x }

heading_reports : (s : Coding) (lim : Limits) (values : Values) (f : Scope) (fs : List Scope) (p begin : ℕ) (t b : List ℕ) → IsUnbroken s lim b → (p ≡ length b) × IsHeading s lim values f fs begin t b → Reports s lim b (reported_in lim (at f fs p (Heading begin t)) values)
heading_reports s lim values f fs p begin t b ok both =
    let x = heading_front s lim values f fs begin t b both.1 in
    let held : held_of lim.wanted x.elements x.path (in_header t) ≡ length t + size_of_values values + 16 * length fs = omega (arith, no_value lim.wanted x.path t, x.levels, ap size_of_values x.kept) in
    subst (Reports s lim b) (λ i. record { fault = None; levels = x.levels i; offset = sym both.0 i; held = held i; kept = sym x.kept i }) (going ok x.front)

value_held : (lim : Limits) (fs : List Scope) (path : List PathEntry) (h : Header) (v : List ℕ) (whole : Values) → length path ≡ length fs → size_of_values (with_value lim fs (number h.tag) v whole) ≡ size_of_values whole + started_bytes lim.wanted path (in_value h v)
value_held lim [] (e ∷ path) h v whole same = absurd (omega arith)
value_held lim (f ∷ fs) [] h v whole same = absurd (omega arith)
value_held lim (f ∷ fs) (e ∷ path) h v whole same = omega arith
value_held lim [] [] h v whole same = by (is_wanted lim.wanted (number h.tag))
  where
    sum : (values : Values) (one : ℕ × List ℕ) → size_of_values (values ++ one ∷ []) ≡ size_of_values values + length one.1
    sum [] one = omega arith
    sum (a ∷ values) one = let k = sum values one in omega (arith, k)

    by : (w : Bool) → size_of_values (if w then whole ++ (number h.tag, v) ∷ [] else whole) ≡ size_of_values whole + (if w then length v else 0)
    by true = sum whole (number h.tag, v)
    by false = omega arith

value_whole : (lim : Limits) (fs : List Scope) (t : ℕ) (v : List ℕ) (whole : Values) → (if wanted_at lim fs t then but_last (with_value lim fs t v whole) else with_value lim fs t v whole) ≡ whole
value_whole lim fs t v whole = by (wanted_at lim fs t)
  where
    cut : (values : Values) (one : ℕ × List ℕ) → but_last (values ++ one ∷ []) ≡ values
    cut [] one = refl
    cut (a ∷ []) one = refl
    cut (a ∷ c ∷ values) one = ap (λ z. a ∷ z) (cut (c ∷ values) one)

    by : (w : Bool) → (if w then but_last (if w then whole ++ (t, v) ∷ [] else whole) else (if w then whole ++ (t, v) ∷ [] else whole)) ≡ whole
    by true = cut whole (t, v)
    by false = refl

-- the level before a value began ends where it ends
started_stop : (g : Scope) (h : Header) → (started_in g h).stop ≡ g.stop
started_stop g h = by (is_marker h.tag)
  where
    by : (m : Bool) → (if m then g else record g { last = number h.tag }).stop ≡ g.stop
    by true = refl
    by false = refl

round_stop : (f g : Scope) (h : Header) → f ≡ started_in g h → f.stop ≡ g.stop
round_stop f g h e = ap (λ (z : Scope). z.stop) e ∙ started_stop g h

pub reading_at : (s : Coding) (lim : Limits) (values : Values) (f : Scope) (fs : List Scope) (t : Tag) (n : ℕ) (b : List ℕ) (r : IsReading s lim values f fs t n b) → FrontAt s lim.wanted r.whole b (in_value r.h r.v) r.round fs
reading_at s lim values f fs t n b r =
    let offset : length b ≡ length (r.before ++ (r.hb ++ r.v)) = ap length r.text in
    let past = less_all (f ∷ fs) (length b + 1) (length b + n) r.levels.hold (omega (arith, r.more)) in
    let here = less_all (f ∷ fs) (length b) (length b + 1) past (omega arith) in
    let stop = round_stop f r.round r.h r.top in
    let hold : AllLastTo (r.round ∷ fs) (length b) = (subst (λ o. LastsTo o (length b)) stop here.0, here.1) in
    let nested : AreNested None (r.round ∷ fs) = subst (λ o. IsRemaining o None × AreNested (if is_some o then o else None) fs) stop r.levels.nested in
    let x = subst (λ z. IsFront s lim.wanted r.whole (length b) z (in_value r.h r.v) r.round fs) (sym r.text) (front_reading r.h r.hb r.v (length b) r.reaches r.begins (omega (arith, r.size, r.more)) hold offset) in
    record { front = x; is_open = open_of x nested (past_stays r.round.stop (length b) (subst (λ o. LastsTo o (length b + 1)) stop past.0)) }

pub reading_front : (s : Coding) (lim : Limits) (values : Values) (f : Scope) (fs : List Scope) (t : Tag) (n : ℕ) (b : List ℕ) (r : IsReading s lim values f fs t n b) → OpenEnd s lim r.whole b (in_value r.h r.v) fs
reading_front s lim values f fs t n b r =
    let y = reading_at s lim values f fs t n b r in
    let x = y.front in
    record { elements = x.elements; path = x.path; last = x.last; front = y.is_open; kept = x.kept; levels = levels_is x }

reading_reports : (s : Coding) (lim : Limits) (values : Values) (f : Scope) (fs : List Scope) (p : ℕ) (t : Tag) (n : ℕ) (b : List ℕ) → IsUnbroken s lim b → (p ≡ length b) × IsReading s lim values f fs t n b → Reports s lim b (reported_in lim (at f fs p (Reading t n)) values)
reading_reports s lim values f fs p t n b ok both =
    let r = both.1 in
    let x = reading_front s lim values f fs t n b r in
    let values-held : size_of_values values ≡ size_of_values r.whole + started_bytes lim.wanted x.path (in_value r.h r.v) = ap size_of_values r.kept ∙ value_held lim fs x.path r.h r.v r.whole x.levels in
    let held : held_of lim.wanted x.elements x.path (in_value r.h r.v) ≡ 0 + size_of_values values + 16 * length fs = omega (arith, values-held, x.levels, ap size_of_values x.kept) in
    let whole : (if wanted_at lim fs (number t) then but_last values else values) ≡ r.whole =
    ap (λ z. if wanted_at lim fs (number z) then but_last values else values) r.tagged ∙ ap (λ z. if wanted_at lim fs (number r.h.tag) then but_last z else z) r.kept ∙ value_whole lim fs (number r.h.tag) r.v r.whole in
    subst (Reports s lim b) (λ i. record { fault = None; levels = x.levels i; offset = sym both.0 i; held = held i; kept = sym (whole ∙ x.kept) i }) (going ok x.front)

stopped_reports : (s : Coding) (lim : Limits) (values : Values) (f : Scope) (fs : List Scope) (p rule offset : ℕ) (t : Tag) (b : List ℕ) → IsBytes b → run lim (start s) b ≡ at f fs p (Stopped rule offset t) → IsStopped s lim values f fs p rule offset t b → Reports s lim b (reported_in lim (at f fs p (Stopped rule offset t)) values)
stopped_reports s lim values f fs p rule offset t b bytes state h =
    let x = open_due s lim values f fs h.before h.due in
    let o = due_open s lim values f fs h.before h.due in
    let levels = levels_is x in
    let held : held_of lim.wanted x.elements x.path (in_header []) ≡ 0 + size_of_values values + 16 * length fs = omega (arith, no_value lim.wanted x.path [], levels, ap size_of_values x.kept) in
    subst (Reports s lim b) (λ i. record { fault = Some (record { number = rule; offset = sym h.offset-is i; tag = t }); levels = levels i; offset = sym h.received i; held = held i; kept = sym x.kept i })
    (refused (stop_first s lim values f fs p rule offset t b bytes state h) o)

reports_by : (s : Coding) (lim : Limits) (values : Values) (f : Scope) (fs : List Scope) (p : ℕ) (m : Mode) (b : List ℕ) → IsBytes b → run lim (start s) b ≡ at f fs p m → StandsIn s lim values f fs p m b → Reports s lim b (reported_in lim (at f fs p m) values)
reports_by s lim values f fs p (Heading begin t) b bytes state h = heading_reports s lim values f fs p begin t b (goes_unbroken s lim b (λ k. subst (λ (z : State). HasStopped z.mode) state k)) h
reports_by s lim values f fs p (Reading t n) b bytes state h = reading_reports s lim values f fs p t n b (goes_unbroken s lim b (λ k. subst (λ (z : State). HasStopped z.mode) state k)) h
reports_by s lim values f fs p (Stopped rule offset t) b bytes state h = stopped_reports s lim values f fs p rule offset t b bytes state h

-- after any bytes the machine reports what is to be reported
pub reports : (s : Coding) (lim : Limits) (b : List ℕ) → IsBytes b → Reports s lim b (reported_in lim (run lim (start s) b) (keeps lim (start s) [] b))
reports s lim b bytes =
    let st = run lim (start s) b in
    reports_by s lim (keeps lim (start s) [] b) st.top st.below st.offset st.mode b bytes refl (stands s lim b bytes)
