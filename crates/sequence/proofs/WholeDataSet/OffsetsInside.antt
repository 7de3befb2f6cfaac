-- At each offset in a whole data set the open levels are a front's, and so no more than the limit (`deep_at`, `inside`,
-- `behind`). Stands on GrammarLeads, MachineReports/FrontAtText and MachineStands.
use Rattle.std.proofs.Common.{◌≡◌, ℕ, ◌+◌, ◌≤◌, ◌≢◌, Bool, true, false, List, [], ◌∷◌, ◌++◌, length, None, is_some, refl, sym, ap, subst, ◌∙◌, arith, append_assoc, append-nil, length-append, ne_eqb, if◌then◌else◌}
use Rattle.sequence.specs.declared.coding.Coding.{Coding}
use Rattle.element.specs.declared.tag.Tag.{Tag}
use Rattle.sequence.specs.declared.level.Scope.{Scope}
use Rattle.sequence.specs.Shape.{is_undefined, undefined_length}
use Rattle.sequence.specs.Tree.{delimitation, Elements, Ended, counted, delimited}
use Rattle.sequence.specs.Open.{PathEntry, Tail, in_header, IsRemaining, Open}
use Rattle.sequence.specs.Wanted.{Values}
use Rattle.sequence.specs.Rules.{Limits, counted_length}
use Rattle.sequence.specs.machine.Machine.{set_scope, nearest, stops_at, stop_of}
use Rattle.sequence.specs.machine.Standing.{IsLength, Reaches, AreNested, LastsTo, AllLastTo}
use Rattle.sequence.proofs.MachineStands.NestedLevels.{nearest_lasts, level_by}
use Rattle.sequence.proofs.GrammarLeads.FaultsStop.{depth_over}
use Rattle.sequence.proofs.GrammarLeads.LevelsArePaths.{IsFront}
use Rattle.sequence.proofs.MachineStands.HeaderDue.{no_header}
use Rattle.sequence.proofs.MachineReports.FrontAtText.{less_all, front_heading, open_of}

-- what a length says of its level

pub record ClosedIs (n : ℕ) (b c : List ℕ) : Type 0 where
  pub end : List ℕ
  pub text : c ≡ b ++ end
  pub even : IsLength n
  pub counts : counted_length n ≤ length c
  pub defined : n ≢ undefined_length → n ≤ length c
  pub room : (p : ℕ) → LastsTo (stop_of p n) (p + length b)

pub closed_is : {t : Tag} {n : ℕ} {b c : List ℕ} → Ended t n b c → ClosedIs n b c
closed_is (counted {b = b} n defined even size) =
    let e : is_undefined n ≡ false = ne_eqb n undefined_length defined in
    record {
      end = [];
      text = sym (append-nil b);
      even = λ d. even;
      counts = rw e (omega (arith, size));
      defined = λ d. omega (arith, size);
      room = λ p. rw e (omega (arith, size));
    }
closed_is {t} (delimited {b = b}) = record {
  end = delimitation t;
  text = refl;
  even = λ d. absurd (d refl);
  counts = omega arith;
  defined = λ d. absurd (d refl);
  room = λ p. tt;
}

pub opened_stays : (p n : ℕ) → n ≢ 0 → stops_at (stop_of p n) p ≡ false
opened_stays p n some = by (is_undefined n) refl
  where
    by : (u : Bool) → is_undefined n ≡ u → stops_at (stop_of p n) p ≡ false
    by true e = rw e refl
    by false e = rw e (ne_eqb (p + n) p (λ same. some (omega (arith, same))))

-- no front of the text has more open levels than the limit
abbrev pub IsShallow : Coding → Limits → List ℕ → Type 0
IsShallow s lim whole = (p rest : List ℕ) (some : Elements) (path : List PathEntry) (last : ℕ) (tail : Tail) → whole ≡ p ++ rest → Open s p some path last tail → length path ≤ lim.depth

-- in the text `whole`, b stands between p and q, where these levels are open
pub record IsBefore (s : Coding) (lim : Limits) (whole : List ℕ) (f : Scope) (fs : List Scope) (before b : List ℕ) (p q : ℕ) : Type 0 where
  pub values : Values
  pub after : List ℕ
  pub reaches : Reaches s lim.wanted values f fs before
  pub nested : AreNested None (f ∷ fs)
  pub hold : AllLastTo (f ∷ fs) q
  pub text : whole ≡ before ++ (b ++ after)
  pub offset : p ≡ length before
  pub size : q ≡ p + length b

-- so they are not more than the limit
pub deep_at : {s : Coding} {lim : Limits} {whole : List ℕ} {f : Scope} {fs : List Scope} {before b : List ℕ} {p q : ℕ} → IsShallow s lim whole → IsBefore s lim whole f fs before b p q → stops_at f.stop p ≡ false → length fs ≤ lim.depth
deep_at {s = s} {lim = lim} {f = f} {fs = fs} {before = before} {b = b} {p = p} {q = q} shallow here stays =
    let n : length before ≡ length (before ++ []) = ap length (sym (append-nil before)) in
    let hold = less_all (f ∷ fs) (length before) q here.hold (omega (arith, here.offset, here.size)) in
    let x : IsFront s lim.wanted here.values (length before) before (in_header []) f fs =
    subst (λ z. IsFront s lim.wanted here.values (length before) z (in_header []) f fs) (append-nil before) (front_heading s lim.wanted here.values f fs before [] (length before) here.reaches (no_header f.syntax) hold n) in
    let o = open_of x here.nested (ap (stops_at f.stop) (sym here.offset) ∙ stays) in
    let le = shallow before (b ++ here.after) x.elements x.path x.last (in_header []) here.text o in
    let levels : length x.path ≡ length fs = sym (depth_over (length before) x.path (set_scope s None x.last)) ∙ ap length x.below in
    omega (arith, le, levels)

pub ends_within : {s : Coding} {lim : Limits} {whole : List ℕ} {f : Scope} {fs : List Scope} {before b : List ℕ} {p q : ℕ} → IsBefore s lim whole f fs before b p q → q ≤ length whole
ends_within {before = before} {b = b} here = omega (arith, here.offset, here.size, ap length here.text, length-append before (b ++ here.after), length-append b here.after)

-- inside a level that opens after the header hb
pub inside : {s : Coding} {lim : Limits} {whole : List ℕ} {f : Scope} {fs : List Scope} {before : List ℕ} {p q n : ℕ} (hb ib cb b : List ℕ) (g f2 : Scope) (here : IsBefore s lim whole f fs before (hb ++ (cb ++ b)) p q) → ClosedIs n ib cb → AreNested None (f2 ∷ fs) → AllLastTo (f2 ∷ fs) q
    → g.stop ≡ stop_of (p + length hb) n → Reaches s lim.wanted here.values g (f2 ∷ fs) (before ++ hb) → IsBefore s lim whole g (f2 ∷ fs) (before ++ hb) ib (p + length hb) (p + length hb + length ib)
inside {fs = fs} {before = before} {p = p} {q = q} {n = n} hb ib cb b g f2 here closed nested hold stop-is reaches =
    let size : q ≡ p + length hb + length cb + length b = omega (arith, here.size, length-append hb (cb ++ b), length-append cb b) in
    let part : length cb ≡ length ib + length closed.end = ap length closed.text ∙ length-append ib closed.end in
    let ends : n ≢ undefined_length → LastsTo (nearest (f2 ∷ fs)) (p + length hb + n) =
    λ d. let le = closed.defined d in nearest_lasts (p + length hb + n) (f2 ∷ fs) (less_all (f2 ∷ fs) (p + length hb + n) q hold (omega (arith, le, size))) in
    record {
      values = here.values;
      after = closed.end ++ (b ++ here.after);
      reaches = reaches;
      nested = subst (λ o. IsRemaining o None × AreNested (if is_some o then o else None) (f2 ∷ fs)) (sym stop-is) (level_by (is_undefined n) n (p + length hb) (f2 ∷ fs) refl ends nested);
      hold = (subst (λ o. LastsTo o (p + length hb + length ib)) (sym stop-is) (closed.room (p + length hb)), less_all (f2 ∷ fs) (p + length hb + length ib) q hold (omega (arith, size, part)));
      text = here.text ∙ ap (λ z. before ++ ((hb ++ (z ++ b)) ++ here.after)) closed.text ∙ simp append_assoc;
      offset = omega (arith, here.offset, length-append before hb);
      size = refl;
    }

-- what stands after the bytes a
pub behind : {s : Coding} {lim : Limits} {whole : List ℕ} {f g : Scope} {fs : List Scope} {before : List ℕ} {p q : ℕ} (a b : List ℕ) (values : Values) (here : IsBefore s lim whole f fs before (a ++ b) p q) → AreNested None (g ∷ fs) → AllLastTo (g ∷ fs) q → Reaches s lim.wanted values g fs (before ++ a)
    → IsBefore s lim whole g fs (before ++ a) b (p + length a) q
behind {before = before} a b values here nested hold reaches = record {
  values = values;
  after = here.after;
  reaches = reaches;
  nested = nested;
  hold = hold;
  text = here.text ∙ simp append_assoc;
  offset = omega (arith, here.offset, length-append before a);
  size = omega (arith, here.size, length-append a b);
}
