-- A text has one first fault (`one_fault`), one report (`one_telling`, `some_telling`), and one thing to hold
-- (`one_holding`). Stands on OneTree, OneWay and MachineReports/AnyText.
use Rattle.std.proofs.Common.{◌≡◌, ℕ, List, [], ◌++◌, length, Some, None, sym, ap, subst, ◌∙◌, arith}
use Rattle.sequence.specs.declared.coding.Coding.{Coding}
use Rattle.element.specs.declared.tag.Tag.{Tag}
use Rattle.element.specs.Numbers.{IsBytes}
use Rattle.sequence.specs.Open.{in_header, Open}
use Rattle.sequence.specs.Wanted.{kept_of, held_of}
use Rattle.sequence.specs.Rules.{Limits, Broken, broken}
use Rattle.sequence.specs.FirstFault.{spot_behind, Breaks, FirstFault}
use Rattle.sequence.specs.Walk.{Report, Reports, going, refused}
use Rattle.sequence.specs.Holding.{Holding, Holds, of_all, before_fault, holding_of}
use Rattle.sequence.proofs.OneReading.OneWay.{same_front}
use Rattle.sequence.specs.machine.Machine.{run, start}
use Rattle.sequence.specs.machine.Keeping.{keeps}
use Rattle.sequence.specs.machine.Reported.{reported_in}
use Rattle.sequence.proofs.MachineReports.AnyText.{reports}
use Rattle.sequence.proofs.OneReading.OneTree.{one_path}

-- the rule that a header breaks is one
breaks_once : (s : Coding) (lim : Limits) (p u : List ℕ) (rule rule2 : ℕ) (tag tag2 : Tag) → Breaks s lim p u rule tag → Breaks s lim p u rule2 tag2 → (rule ≡ rule2) × (tag ≡ tag2)
breaks_once s lim p u rule rule2 tag tag2 b c =
    let k = one_path s p b.elements c.elements b.path c.path b.last c.last (in_header []) (in_header []) b.due c.due in
    let spot : spot_behind s b.path b.last (length p) ≡ spot_behind s c.path c.last (length p) = λ i. spot_behind s (k.1 i) (k.2 i) (length p) in
    let same : ◌≡◌ {A = Broken} (Some (rule, tag)) (Some (rule2, tag2)) = sym b.breaks ∙ ap (λ z. broken lim z u) spot ∙ c.breaks in
    let pair : ◌≡◌ {A = ℕ × Tag} (rule, tag) (rule2, tag2) = cc in
    (ap (λ z. z.0) pair, ap (λ z. z.1) pair)

pub one_fault : (s : Coding) (lim : Limits) (b p p2 u u2 : List ℕ) (rule rule2 : ℕ) (tag tag2 : Tag) → FirstFault s lim b p u rule tag → FirstFault s lim b p2 u2 rule2 tag2 → (p ≡ p2) × (u ≡ u2) × (rule ≡ rule2) × (tag ≡ tag2)
one_fault s lim b p p2 u u2 rule rule2 tag tag2 f g =
    let near = f.first p2 u2 g.rest rule2 tag2 g.text g.breaks in
    let far = g.first p u f.rest rule tag f.text f.breaks in
    let fronts = same_front (p ++ u) (p2 ++ u2) f.rest g.rest (sym f.text ∙ g.text) (omega (arith, near.end, far.end)) in
    let parts = same_front p p2 u u2 fronts.0 (omega (arith, near.offset, far.offset)) in
    let there : Breaks s lim p u rule2 tag2 = subst (λ z. Breaks s lim z u rule2 tag2) (sym parts.0) (subst (λ z. Breaks s lim p2 z rule2 tag2) (sym parts.1) g.breaks) in
    let rules = breaks_once s lim p u rule rule2 tag tag2 f.breaks there in
    (parts.0, parts.1, rules.0, rules.1)

pub one_telling : (s : Coding) (lim : Limits) (b : List ℕ) (reported reported2 : Report) → Reports s lim b reported → Reports s lim b reported2 → reported ≡ reported2
one_telling s lim b reported reported2 (going {es = es} {path = path} {last = last} {tail = tail} ok front) (going {es = es2} {path = path2} {last = last2} {tail = tail2} ok2 front2) =
    let k = one_path s b es es2 path path2 last last2 tail tail2 front front2 in
    λ i. record { fault = None; levels = length (k.1 i); offset = length b; held = held_of lim.wanted (k.0 i) (k.1 i) (k.3 i); kept = kept_of lim.wanted (k.0 i) }
one_telling s lim b reported reported2 (going ok front) (refused {p = p} {u = u} {rule = rule} {tag = tag} f front2) = absurd (ok p u f.rest rule tag f.text f.breaks)
one_telling s lim b reported reported2 (refused {p = p} {u = u} {rule = rule} {tag = tag} f front) (going ok front2) = absurd (ok p u f.rest rule tag f.text f.breaks)
one_telling s lim b reported reported2 (refused {p = p} {u = u} {rule = rule} {tag = tag} {es = es} {path = path} {last = last} f front) (refused {p = p2} {u = u2} {rule = rule2} {tag = tag2} {es = es2} {path = path2} {last = last2} g front2) =
    let k = one_fault s lim b p p2 u u2 rule rule2 tag tag2 f g in
    let m = one_path s p es es2 path path2 last last2 (in_header []) (in_header []) front (subst (λ z. Open s z es2 path2 last2 (in_header [])) (sym k.0) front2) in
    λ i. record { fault = Some (record { number = k.2 i; offset = length (k.0 i); tag = k.3 i }); levels = length (m.1 i); offset = length (k.0 i ++ k.1 i); held = held_of lim.wanted (m.0 i) (m.1 i) (in_header []); kept = kept_of lim.wanted (m.0 i) }

pub one_holding : (s : Coding) (lim : Limits) (b : List ℕ) (held held2 : Holding) → Holds s lim b held → Holds s lim b held2 → held ≡ held2
one_holding s lim b held held2 (of_all {es = es} {path = path} {last = last} {tail = tail} ok front) (of_all {es = es2} {path = path2} {last = last2} {tail = tail2} ok2 front2) =
    let k = one_path s b es es2 path path2 last last2 tail tail2 front front2 in
    λ i. holding_of s lim.wanted (length b) (k.0 i) (k.1 i) (k.2 i) (k.3 i)
one_holding s lim b held held2 (of_all ok front) (before_fault {p = p} {u = u} {rule = rule} {tag = tag} f front2) = absurd (ok p u f.rest rule tag f.text f.breaks)
one_holding s lim b held held2 (before_fault {p = p} {u = u} {rule = rule} {tag = tag} f front) (of_all ok front2) = absurd (ok p u f.rest rule tag f.text f.breaks)
one_holding s lim b held held2 (before_fault {p = p} {u = u} {rule = rule} {tag = tag} {es = es} {path = path} {last = last} f front) (before_fault {p = p2} {u = u2} {rule = rule2} {tag = tag2} {es = es2} {path = path2} {last = last2} g front2) =
    let k = one_fault s lim b p p2 u u2 rule rule2 tag tag2 f g in
    let m = one_path s p es es2 path path2 last last2 (in_header []) (in_header []) front (subst (λ z. Open s z es2 path2 last2 (in_header [])) (sym k.0) front2) in
    λ i. holding_of s lim.wanted (length (k.0 i)) (m.0 i) (m.1 i) (m.2 i) (in_header [])

pub some_telling : (s : Coding) (lim : Limits) (b : List ℕ) → IsBytes b → (reported : Report) × Reports s lim b reported
some_telling s lim b bytes = (reported_in lim (run lim (start s) b) (keeps lim (start s) [] b), reports s lim b bytes)
