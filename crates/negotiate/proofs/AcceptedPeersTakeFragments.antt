-- An accepted peer can receive fragments: its maximum length is 0 or at least 8 (`accepted_maximum`); a test of some
-- item of a list is that of what the items are mapped to (`list_any-map`). Stands on the definitions alone.
use Rattle.std.proofs.Common.{◌≡◌, ℕ, ◌≤◌, Bool, true, false, not, ◌&&◌, ◌||◌, ◌⊎◌, inl, inr, List, [], ◌∷◌, map, nat_le, if◌then◌else◌, refl, ap, arith}
use Rattle.std.proofs.lemmas.Bool.Decides.{nat_tests}
use Rattle.std.proofs.lemmas.Bool.{cases_lt}
use Rattle.std.specs.List.{list_any}
use Rattle.pdu.specs.Record.{RequestRecord}
use Rattle.negotiate.specs.declared.answer.Answer.TheVariants.{Accept, Reject}
use Rattle.negotiate.specs.Answer.{judged}
use Rattle.negotiate.specs.Settings.{Settings}

-- a test of what each element shows
pub list_any-map : {A B : Type 0} (p : B → Bool) (f : A → B) (xs : List A) → list_any p (map f xs) ≡ list_any (λ x. p (f x)) xs
list_any-map p f [] = refl
list_any-map p f (x ∷ xs) = ap (λ b. p (f x) || b) (list_any-map p f xs)

-- ---- whom a request that is accepted comes from

is_small : (n : ℕ) → 1 ≤ n → n ≤ 7 → (nat_le 1 n && nat_le n 7) ≡ true
is_small n above below = grind (arith, nat_tests)

not_small : (n : ℕ) → (nat_le 1 n && nat_le n 7) ≡ false → (n ≡ 0) ⊎ (8 ≤ n)
not_small n h = elim (cases_lt n 8) [
  | inl below ↦ elim (cases_lt 0 n) [ inl above ↦ (let small = is_small n (omega arith) (omega arith) in cc) | inr none ↦ inl (omega arith) ]
  | inr large ↦ inr large
]

accepts : (a b c d e : Bool) → (if not a then Reject 1 2 2 else (if not b then Reject 1 1 2 else (if not c then Reject 1 1 7 else (if not d then Reject 1 1 3 else (if e then Reject 1 1 1 else Accept))))) ≡ Accept → e ≡ false
accepts a b c d false h = refl
accepts false b c d true h = cc
accepts true false c d true h = cc
accepts true true false d true h = cc
accepts true true true false true h = cc
accepts true true true true true h = cc

-- a peer whose request is accepted can receive any fragment, or names a maximum length of at least 8
pub accepted_maximum : (s : Settings) (r : RequestRecord) → judged s r ≡ Accept → (r.maximum ≡ 0) ⊎ (8 ≤ r.maximum)
accepted_maximum s r h = not_small r.maximum (accepts _ _ _ _ _ h)
