-- Where an element or an item ends, the machine leaves the levels that end there and stands with a header due
-- (`arrive_stands`). Stands on NestedLevels and ReachedLevels.
use Rattle.std.proofs.Common.{◌≡◌, ℕ, ◌+◌, Bool, true, false, List, [], ◌∷◌, ◌++◌, length, Option, Some, None, is_some, refl, sym, ap, subst, ◌∙◌, inl, append-nil, eqb-true, if◌then◌else◌, lit<}
use Rattle.sequence.specs.declared.coding.Coding.{Coding}
use Rattle.element.specs.declared.header.Header.{Header}
use Rattle.element.specs.Header.{need, is_whole}
use Rattle.sequence.specs.declared.level.Scope.{Scope}
use Rattle.sequence.specs.declared.wanted.Want.{Want}
use Rattle.sequence.specs.Open.{IsUnfinishedHeader, IsRemaining}
use Rattle.sequence.specs.Wanted.{Values}
use Rattle.sequence.specs.Rules.{Limits, Broken, broken_due, ◌or_else◌, broken}
use Rattle.sequence.specs.machine.Machine.{State, spot_of, nearer, nearest, stops_at, arrive, due, due_by}
use Rattle.sequence.specs.machine.Standing.{IsBytes, Reaches, at_root, AreNested, LastsTo, AllLastTo, AreLevels, IsDue, Stands}
use Rattle.sequence.proofs.MachineStands.ReachedLevels.{level_ends}
use Rattle.sequence.proofs.MachineStands.NestedLevels.{levels_end, IsConsumed}

no_bytes : IsBytes []
no_bytes i = lit< tt

nil_front : (u v : List ℕ) → [] ≡ u ++ v → u ≡ []
nil_front [] v e = refl
nil_front (x ∷ u) v e = absurd cc

pub no_cons : (w : List ℕ) (x : ℕ) (z : List ℕ) → [] ≡ w ++ x ∷ z → ⊥
no_cons [] x z e = cc
no_cons (y ∷ w) x z e = cc

pub none_none : (x : Broken) → (x or_else None or_else None or_else None) ≡ x
none_none None = refl
none_none (Some x) = refl

pub no_header : (s : Coding) → IsUnfinishedHeader s []
unfolding is_whole need
no_header s = record { part = refl; good = λ e. absurd cc }

due_stands : (s : Coding) (lim : Limits) (values : Values) (f : Scope) (fs : List Scope) (b : List ℕ) (x : Broken) → broken_due (spot_of f fs (length b)) ≡ x → IsDue s lim values f fs b → Stands s lim (due_by x f fs (length b)) values b
unfolding broken is_whole need
due_stands s lim values f fs b None e d = (
  refl,
  record {
    before = b;
    due = d;
    offset = refl;
    text = sym (append-nil b);
    tail = no_header f.syntax;
    unbroken = λ u v same. rw (nil_front u v same) (none_none (broken_due (spot_of f fs (length b))) ∙ e);
    bytes = no_bytes;
  },
)
due_stands s lim values f fs b (Some x) e d = record {
  before = b;
  u = [];
  rest = [];
  due = d;
  offset-is = refl;
  received = ap length (sym (append-nil b));
  text = sym (append-nil (b ++ []) ∙ append-nil b);
  breaks = none_none (broken_due (spot_of f fs (length b))) ∙ e;
  unbroken = λ w y z same. absurd (no_cons w y z same);
  one_header = λ w y z same. absurd (no_cons w y z same);
}

-- an offset where a header is due: the levels, and the machine's state there
pub record Lands (s : Coding) (lim : Limits) (values : Values) (st : State) (p : List ℕ) : Type 0 where
  pub top : Scope
  pub below : List Scope
  pub due-is : IsDue s lim values top below p
  pub lands : st ≡ due top below (length p)

ends_here : (o : Option ℕ) (p : ℕ) → stops_at o p ≡ true → o ≡ Some p
ends_here None p h = absurd cc
ends_here (Some e) p h = ap Some (eqb-true e p h)

root_stays : {s : Coding} {ws : List Want} {values : Values} {f : Scope} {b : List ℕ} (n : ℕ) → Reaches s ws values f [] b → stops_at f.stop n ≡ false
root_stays n (at_root d e k fits) = refl

arrives_by : (s : Coding) (lim : Limits) (values : Values) (f g : Scope) (gs : List Scope) (p : List ℕ) (b : Bool) → stops_at f.stop (length p) ≡ b → Reaches s lim.wanted values f (g ∷ gs) p → AreLevels lim f (g ∷ gs) (length p) → (Reaches s lim.wanted values g gs p → AreLevels lim g gs (length p) → Lands s lim values (arrive (length p) g gs) p)
    → Lands s lim values (if b then arrive (length p) g gs else due f (g ∷ gs) (length p)) p
arrives_by s lim values f g gs p true e r l go = go (subst (λ z. Reaches s lim.wanted values g gs z) (append-nil p) (level_ends [] r (inl (ends_here f.stop (length p) e, refl)))) (levels_end lim f g gs (length p) l)
arrives_by s lim values f g gs p false e r l go = record { top = f; below = g ∷ gs; due-is = record { reaches = r; levels = l; stays = e }; lands = refl }

arrives : (s : Coding) (lim : Limits) (values : Values) (f : Scope) (fs : List Scope) (p : List ℕ) → Reaches s lim.wanted values f fs p → AreLevels lim f fs (length p) → Lands s lim values (arrive (length p) f fs) p
unfolding arrive
arrives s lim values f [] p r l = record { top = f; below = []; due-is = record { reaches = r; levels = l; stays = root_stays (length p) r }; lands = refl }
arrives s lim values f (g ∷ gs) p r l = arrives_by s lim values f g gs p (stops_at f.stop (length p)) refl r l (λ r2 l2. arrives s lim values g gs p r2 l2)

lands_stand : (s : Coding) (lim : Limits) (values : Values) (st : State) (b : List ℕ) → Lands s lim values st b → Stands s lim st values b
unfolding due
lands_stand s lim values st b l = rw l.lands (due_stands s lim values l.top l.below b (broken_due (spot_of l.top l.below (length b))) refl l.due-is)

pub arrive_stands : {s : Coding} {values : Values} {f : Scope} {fs : List Scope} {b : List ℕ} (lim : Limits) (p : ℕ) → p ≡ length b → Reaches s lim.wanted values f fs b → AreLevels lim f fs p → Stands s lim (arrive p f fs) values b
arrive_stands {s = s} {values = values} {f = f} {fs = fs} {b = b} lim p e r l = rw e (lands_stand s lim values (arrive (length b) f fs) b (arrives s lim values f fs b r (subst (AreLevels lim f fs) e l)))

same_levels : {lim : Limits} {f : Scope} {fs : List Scope} {n : ℕ} (g : Scope) → f.stop ≡ g.stop → AreLevels lim f fs n → AreLevels lim g fs n
same_levels {lim} {f} {fs} {n} g e l = record { nested = subst (λ o. IsRemaining o None × AreNested (if is_some o then o else None) fs) e l.nested; hold = subst (λ o. LastsTo o n × AllLastTo fs n) e l.hold; deep = l.deep; short = l.short }

pub same_consumed : {lim : Limits} {f : Scope} {fs : List Scope} {p : ℕ} {h : Header} (g : Scope) → f.stop ≡ g.stop → IsConsumed lim f fs p h → IsConsumed lim g fs p h
same_consumed {lim} {f} {fs} {p} {h} g e t = record { levels = same_levels g e t.levels; ends = λ d. subst (λ o. LastsTo (nearer o (nearest fs)) (p + h.length)) e (t.ends d); far = t.far }
