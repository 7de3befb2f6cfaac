-- What the levels of a path lack never grows inwards (`ends_nested`), and a whole level has one inside that is open
-- (`whole_open`). Stands on the definitions alone.
use Rattle.std.proofs.Common.{◌≡◌, ℕ, ◌≤◌, ◌≢◌, List, [], ◌∷◌, ◌++◌, Option, Some, None, is_some, refl, ap, subst, ◌∙◌, arith, if◌then◌else◌}
use Rattle.sequence.specs.declared.coding.Coding.{Coding}
use Rattle.sequence.specs.Tree.{Elements}
use Rattle.sequence.specs.Open.{PathEntry, Tail, IsRemaining, AreRemaining, IsInnermost, Open}
use Rattle.sequence.specs.Laws.{HasOpenEnded, this_one}

next_remaining : (o : Option ℕ) (n m : ℕ) (path : List PathEntry) (A : Type 0) → n ≤ m → IsRemaining o (Some m) → AreRemaining (if is_some o then o else Some m) path → ((q : ℕ) → n ≤ q → AreRemaining (Some q) path → A) → A
next_remaining None n m path A le here h go = go m le h
next_remaining (Some q) n m path A le here h go = go q (omega (arith, le, here)) h

round_remaining : (n m k : ℕ) (between around : List PathEntry) (outer : PathEntry) → n ≤ m → AreRemaining (Some m) (between ++ outer ∷ around) → outer.remaining ≡ Some k → n ≤ k
round_remaining n m k [] around outer le h e = let far : IsRemaining (Some k) (Some m) = subst (λ z. IsRemaining z (Some m)) e h.0 in omega (arith, le, far)
round_remaining n m k (d ∷ between) around outer le h e = next_remaining d.remaining n m (between ++ outer ∷ around) (n ≤ k) le h.0 h.1 (λ q far more. round_remaining n q k between around outer far more e)

inside_remaining : (near : Option ℕ) (inside between around : List PathEntry) (inner outer : PathEntry) (n k : ℕ) → AreRemaining near (inside ++ inner ∷ (between ++ outer ∷ around)) → inner.remaining ≡ Some n → outer.remaining ≡ Some k → n ≤ k
inside_remaining near [] between around inner outer n k h e f = round_remaining n n k between around outer (omega arith) (subst (λ z. AreRemaining (if is_some z then z else near) (between ++ outer ∷ around)) e h.1) f
inside_remaining near (d ∷ inside) between around inner outer n k h e f = inside_remaining (if is_some d.remaining then d.remaining else near) inside between around inner outer n k h.1 e f

pub ends_nested : (s : Coding) (b : List ℕ) (es : Elements) (path inside between around : List PathEntry) (inner outer : PathEntry) (last n k : ℕ) (tail : Tail)
    → Open s b es path last tail → path ≡ inside ++ inner ∷ (between ++ outer ∷ around) → inner.remaining ≡ Some n → outer.remaining ≡ Some k → n ≤ k
ends_nested s b es path inside between around inner outer last n k tail o same e f = inside_remaining None inside between around inner outer n k (subst (AreRemaining None) same o.remaining) e f

open_by : (d : PathEntry) (inside around : List PathEntry) (e : PathEntry) (o : Option ℕ) → d.remaining ≡ o → d.remaining ≢ Some 0 → ((n : ℕ) → d.remaining ≡ Some n → n ≤ 0) → HasOpenEnded (d ∷ inside)
open_by d inside around e None same some less = this_one same
open_by d inside around e (Some n) same some less = absurd (some (same ∙ ap Some (let le = less n same in let z : n ≡ 0 = omega (arith, le) in z)))

whole_by : (inside around : List PathEntry) (e : PathEntry) → AreRemaining None (inside ++ e ∷ around) → IsInnermost (inside ++ e ∷ around) → e.remaining ≡ Some 0 → HasOpenEnded inside
whole_by [] around e h innermost zero = absurd (innermost zero)
whole_by (d ∷ inside) around e h innermost zero = open_by d inside around e d.remaining refl innermost (λ n same. inside_remaining None [] inside around d e n 0 h same zero)

pub whole_open : (s : Coding) (b : List ℕ) (es : Elements) (path inside around : List PathEntry) (e : PathEntry) (last : ℕ) (tail : Tail) → Open s b es path last tail → path ≡ inside ++ e ∷ around → e.remaining ≡ Some 0 → HasOpenEnded inside
whole_open s b es path inside around e last tail o same zero = whole_by inside around e (subst (AreRemaining None) same o.remaining) (subst IsInnermost same o.innermost) zero
