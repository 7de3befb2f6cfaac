-- A printable text with what is shown after it is printable (`shown_after`). Stands on the definitions alone.
use Rattle.std.proofs.Common.{◌≡◌, ℕ, Bool, true, false, List, [], ◌∷◌, ◌++◌, ◌&&◌, map, refl, if◌then◌else◌}
use Rattle.std.specs.List.{list_all}
use Rattle.journal.specs.Printable.{is_printable, shown}

shown_prints : (b : ℕ) → is_printable (shown b) ≡ true
shown_prints b = by_cases b (is_printable b) refl
  where
    by_cases : (b : ℕ) (p : Bool) → is_printable b ≡ p → is_printable (if p then b else 63) ≡ true
    by_cases b true e = e
    by_cases b false e = refl

all_shown : (xs : List ℕ) → list_all is_printable (map shown xs) ≡ true
all_shown [] = refl
all_shown (x ∷ xs) = rw (shown_prints x) (all_shown xs)

all_both : (xs ys : List ℕ) → list_all is_printable xs ≡ true → list_all is_printable ys ≡ true → list_all is_printable (xs ++ ys) ≡ true
all_both [] ys e f = f
all_both (x ∷ xs) ys e f = both (is_printable x) _ _ e (λ g. all_both xs ys g f)
  where
    both : (a b c : Bool) → (a && b) ≡ true → (b ≡ true → c ≡ true) → (a && c) ≡ true
    both true b c e k = k e
    both false b c e k = e

-- a text and what is shown after it print
pub shown_after : (xs ys : List ℕ) → list_all is_printable xs ≡ true → list_all is_printable (xs ++ map shown ys) ≡ true
shown_after xs ys e = all_both xs (map shown ys) e (all_shown ys)
