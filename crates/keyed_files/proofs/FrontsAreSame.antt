-- Readers of which the same bytes were read give the same where they do so after them (`before`), and where both are at their
-- end (`at_end`). Stands on the definitions alone.
use Rattle.std.proofs.Common.{◌≡◌, ℕ, Bool, true, false, ◌&&◌, nat_eq, List, [], ◌∷◌, ◌++◌, Option, Some, None, arith, refl, sym, ap, ◌∙◌}
use Rattle.std.proofs.lemmas.Bool.Decides.{nat_tests}
use Rattle.std.specs.Cmp.Lexicographic.{pointwise}
use Rattle.std.specs.Io.KnownBytes.{Consumes, IsAtEnd}
use Rattle.keyed_files.specs.SameBytes.{GiveTheSame}

pub same_text : (xs ys : List ℕ) → pointwise nat_eq xs ys ≡ true → xs ≡ ys
same_text [] [] h = refl
same_text [] (y ∷ ys) h = absurd cc
same_text (x ∷ xs) [] h = absurd cc
same_text (x ∷ xs) (y ∷ ys) h = by (nat_eq x y) refl h (λ k. same_text xs ys k) where
  by : (t : Bool) → nat_eq x y ≡ t → (t && pointwise nat_eq xs ys) ≡ true → (pointwise nat_eq xs ys ≡ true → xs ≡ ys) → x ∷ xs ≡ y ∷ ys
  by true e k later = let first : x ≡ y = grind (arith, nat_tests) in let rest = later k in cc
  by false e k later = absurd cc

pub before : (one one_remaining other other_remaining : Option (List ℕ)) (front front_other : List ℕ) → Consumes one one_remaining front → Consumes other other_remaining front_other → front ≡ front_other → GiveTheSame one_remaining other_remaining → GiveTheSame one other
before None one_remaining other other_remaining front front_other consumed consumed_other fronts same = _
before (Some one) one_remaining None other_remaining front front_other consumed consumed_other fronts same = _
before (Some one) None (Some other) other_remaining front front_other consumed consumed_other fronts same = absurd consumed
before (Some one) (Some one_remaining) (Some other) None front front_other consumed consumed_other fronts same = absurd consumed_other
before (Some one) (Some one_remaining) (Some other) (Some other_remaining) front front_other consumed consumed_other fronts same =
    consumed ∙ ap (λ (rest : List ℕ). front ++ rest) same ∙ ap (λ (bytes : List ℕ). bytes ++ other_remaining) fronts ∙ sym consumed_other

pub at_end : (one one_remaining other other_remaining : Option (List ℕ)) → Consumes one one_remaining [] → IsAtEnd one_remaining → Consumes other other_remaining [] → IsAtEnd other_remaining → GiveTheSame one other
at_end None one_remaining other other_remaining consumed ended consumed_other ended_other = _
at_end (Some one) one_remaining None other_remaining consumed ended consumed_other ended_other = _
at_end (Some one) None (Some other) other_remaining consumed ended consumed_other ended_other = absurd consumed
at_end (Some one) (Some one_remaining) (Some other) None consumed ended consumed_other ended_other = absurd consumed_other
at_end (Some one) (Some one_remaining) (Some other) (Some other_remaining) consumed ended consumed_other ended_other = consumed ∙ ended ∙ sym ended_other ∙ sym consumed_other
