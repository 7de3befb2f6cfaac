-- The bytes of a header that are kept between two pieces break no rule and are not whole (`started_quiet`, `started_tail`).
-- Stands on MachineStands/UnbrokenHeader.
use Rattle.std.proofs.Common.{◌≡◌, ℕ, ◌-◌, ◌<◌, Bool, true, false, not, ◌&&◌, List, [], ◌∷◌, ◌++◌, length, None, Some, is_none, refl, sym, ap, subst, ◌∙◌, arith, append-nil}
use Rattle.sequence.specs.declared.coding.Coding.{Coding}
use Rattle.element.specs.Header.{need, is_whole}
use Rattle.sequence.specs.declared.level.Scope.{Scope}
use Rattle.sequence.specs.declared.stage.Stage.{Stage}
use Rattle.sequence.specs.declared.stage.Stage.TheVariants as stages
use Rattle.sequence.specs.Open.{IsUnfinishedHeader}
use Rattle.sequence.specs.Rules.{Limits, Broken}
use Rattle.sequence.specs.machine.Machine.{spot_of}
use Rattle.sequence.specs.machine.Heading.{IsQuiet, is_started}
use Rattle.sequence.specs.machine.Steps.{IsConsumed}
use Rattle.sequence.proofs.MachineStands.UnbrokenHeader.{on_tail}

both : (a b : Bool) → (a && b) ≡ true → (a ≡ true) × (b ≡ true)
both true b e = (refl, e)
both false b e = absurd cc

none_is : (x : Broken) → is_none x ≡ true → x ≡ None
none_is None e = refl
none_is (Some x) e = absurd cc

not_true : (b : Bool) → not b ≡ true → b ≡ false
not_true true e = absurd cc
not_true false e = refl

pub none_started : (lim : Limits) (f : Scope) (fs : List Scope) (p : ℕ) (t : List ℕ) → t ≡ [] → is_started lim f fs p t ≡ true
none_started lim f fs p [] e = refl
none_started lim f fs p (x ∷ t) e = absurd cc

pub quiet_started : (lim : Limits) (f : Scope) (fs : List Scope) (p : ℕ) (t : List ℕ) → IsQuiet lim (spot_of f fs (p - length t)) t → is_started lim f fs p t ≡ true
quiet_started lim f fs p [] q = refl
quiet_started lim f fs p (x ∷ t) q = let fine = q.fine in let part = q.part in rw fine (ap not part)

pub started_quiet : (lim : Limits) (f : Scope) (fs : List Scope) (p : ℕ) (t : List ℕ) → is_started lim f fs p t ≡ true → 0 < length t → IsQuiet lim (spot_of f fs (p - length t)) t
started_quiet lim f fs p [] e some = absurd (omega (arith, some))
started_quiet lim f fs p (x ∷ t) e some = let k = both _ _ e in record { fine = none_is _ k.0; part = not_true _ k.1 }

nothing_unfinished : (s : Coding) → IsUnfinishedHeader s []
unfolding is_whole need
nothing_unfinished s = record { part = refl; good = λ e. absurd cc }

pub started_tail : (lim : Limits) (f : Scope) (fs : List Scope) (p : ℕ) (t : List ℕ) → is_started lim f fs p t ≡ true → IsUnfinishedHeader f.syntax t
started_tail lim f fs p [] e = nothing_unfinished f.syntax
started_tail lim f fs p (x ∷ t) e = let q = started_quiet lim f fs p (x ∷ t) e (omega arith) in on_tail lim _ (x ∷ t) q.fine q.part

-- of an empty piece nothing is consumed
pub none_reported : (lim : Limits) (f : Scope) (fs : List Scope) (p : ℕ) (t piece : List ℕ) (stage : Stage) → is_started lim f fs p t ≡ true → stage ≡ stages.Heading → piece ≡ [] → IsConsumed f.syntax t piece p 0 stage t None
none_reported lim f fs p t piece stage b e none =
    let all : t ≡ t ++ piece = sym (ap (λ z. t ++ z) none ∙ append-nil t) in
    subst (λ z. IsConsumed f.syntax t piece p 0 z t None) (sym e) (sym (ap length none), all, subst (IsUnfinishedHeader f.syntax) all (started_tail lim f fs p t b))
