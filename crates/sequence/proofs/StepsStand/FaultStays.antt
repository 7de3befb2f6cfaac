-- The first fault of a text is that of each text that continues from it (`fault_stays`), and so is its report
-- (`refusal_stays`). Stands on GrammarLeads and MachineReports/AnyText.
use Rattle.std.proofs.Common.{◌≡◌, ℕ, ◌≤◌, ◌⊎◌, List, [], ◌∷◌, ◌++◌, length, Some, refl, sym, ap, subst, ◌∙◌, inl, inr, arith, append_assoc, length-append}
use Rattle.sequence.specs.declared.coding.Coding.{Coding}
use Rattle.element.specs.declared.tag.Tag.{Tag}
use Rattle.element.specs.Numbers.{IsBytes}
use Rattle.sequence.specs.declared.level.Scope.{Scope}
use Rattle.sequence.specs.declared.fault.Fault.{Fault}
use Rattle.sequence.specs.Rules.{Limits}
use Rattle.sequence.specs.FirstFault.{FirstFault}
use Rattle.sequence.specs.Walk.{Report, Reports, going, refused}
use Rattle.sequence.specs.machine.Machine.{State, at, Mode, Heading, Reading, Stopped, run, start}
use Rattle.sequence.specs.machine.Keeping.{keeps}
use Rattle.sequence.specs.machine.Standing.{StandsIn}
use Rattle.sequence.proofs.GrammarLeads.TreesRun.{HasStopped}
use Rattle.sequence.proofs.GrammarLeads.FaultsStop.{StopsAt, breaks_stop}
use Rattle.sequence.proofs.MachineReports.AnyText.{stands, stays_stopped, stops_stopped, stop_first}

-- of two fronts of a text the shorter one is a front of the other
pub record IsFrontOf (a b : List ℕ) : Type 0 where
  pub rest : List ℕ
  pub text : b ≡ a ++ rest

pub front_of : (a b x y : List ℕ) → a ++ x ≡ b ++ y → length a ≤ length b → IsFrontOf a b
front_of [] b x y e le = record { rest = b; text = refl }
front_of (z ∷ a) [] x y e le = absurd (omega arith)
front_of (z ∷ a) (w ∷ b) x y e le =
    let same : z ≡ w = cc in
    let on : a ++ x ≡ b ++ y = cc in
    let k = front_of a b x y on (omega arith) in
    record { rest = k.rest; text = λ i. sym same i ∷ k.text i }

fault_text : {s : Coding} {lim : Limits} {b p u : List ℕ} {rule : ℕ} {tag : Tag} (more : List ℕ) (f : FirstFault s lim b p u rule tag) → b ++ more ≡ (p ++ u) ++ (f.rest ++ more)
fault_text {p = p} {u = u} more f = ap (λ z. z ++ more) f.text ∙ append_assoc (p ++ u) f.rest more

fault_stops : (s : Coding) (lim : Limits) (b more p u : List ℕ) (rule : ℕ) (tag : Tag) → FirstFault s lim b p u rule tag → HasStopped (run lim (start s) (b ++ more)).mode
fault_stops s lim b more p u rule tag f = by (breaks_stop s lim p u rule tag f.breaks)
  where
    by : HasStopped (run lim (start s) p).mode ⊎ StopsAt (length p) (run lim (start s) (p ++ u)).mode → HasStopped (run lim (start s) (b ++ more)).mode
    by (inl h) = subst (λ (z : State). HasStopped z.mode) (sym (ap (run lim (start s)) (fault_text more f ∙ append_assoc p u (f.rest ++ more)) ∙ stays_stopped s lim p (u ++ (f.rest ++ more)) h)) h
    by (inr h) = let k = stops_stopped (length p) _ h in subst (λ (z : State). HasStopped z.mode) (sym (ap (run lim (start s)) (fault_text more f) ∙ stays_stopped s lim (p ++ u) (f.rest ++ more) k)) k

-- two first faults, of a text and of one that continues from it
same_first : (s : Coding) (lim : Limits) (b more p u before w : List ℕ) (rule rule2 : ℕ) (tag tag2 : Tag) → FirstFault s lim b p u rule tag → FirstFault s lim (b ++ more) before w rule2 tag2 → FirstFault s lim (b ++ more) p u rule tag
same_first s lim b more p u before w rule rule2 tag tag2 f g =
    let far = g.first p u (f.rest ++ more) rule tag (fault_text more f) f.breaks in
    let short : length (before ++ w) ≤ length b = omega (arith, far.end, ap length f.text, length-append (p ++ u) f.rest) in
    let front = front_of (before ++ w) b g.rest more (sym g.text) short in
    let near = f.first before w front.rest rule2 tag2 front.text g.breaks in
    record {
      rest = f.rest ++ more;
      text = fault_text more f;
      breaks = f.breaks;
      first = λ q v rest n t e breaks. let k = g.first q v rest n t e breaks in record { offset = omega (arith, near.offset, k.offset); end = omega (arith, near.end, k.end) };
    }

pub fault_stays : (s : Coding) (lim : Limits) (b more p u : List ℕ) (rule : ℕ) (tag : Tag) → IsBytes (b ++ more) → FirstFault s lim b p u rule tag → FirstFault s lim (b ++ more) p u rule tag
fault_stays s lim b more p u rule tag bytes f =
    let st = run lim (start s) (b ++ more) in
    by st.top st.below st.offset st.mode refl (fault_stops s lim b more p u rule tag f) (stands s lim (b ++ more) bytes)
  where
    by : (g : Scope) (gs : List Scope) (n : ℕ) (m : Mode) → run lim (start s) (b ++ more) ≡ at g gs n m → HasStopped m → StandsIn s lim (keeps lim (start s) [] (b ++ more)) g gs n m (b ++ more) → FirstFault s lim (b ++ more) p u rule tag
    by g gs n (Heading begin t) e h k = absurd h
    by g gs n (Reading t remaining) e h k = absurd h
    by g gs n (Stopped rule2 offset tag2) e h k =
        same_first s lim b more p u k.before k.u rule rule2 tag tag2 f (stop_first s lim (keeps lim (start s) [] (b ++ more)) g gs n rule2 offset tag2 (b ++ more) bytes e k)

pub refusal_stays : (s : Coding) (lim : Limits) (b more : List ℕ) (reported : Report) (fault : Fault) → IsBytes (b ++ more) → reported.fault ≡ Some fault → Reports s lim b reported → Reports s lim (b ++ more) reported
refusal_stays s lim b more reported fault bytes e (going ok front) = absurd cc
refusal_stays s lim b more reported fault bytes e (refused {p = p} {u = u} {rule = rule} {tag = tag} f front) = refused (fault_stays s lim b more p u rule tag bytes f) front
