-- A byte at an end of a text is dropped where it is padding (`trailing_dropped`, `leading_dropped`), and else the text stays
-- (`trailing_kept`, `leading_kept`). Stands on the definitions alone.
use Rattle.std.proofs.Common.{◌≡◌, ℕ, ◌+◌, ◌<◌, Bool, true, false, List, [], ◌∷◌, ◌++◌, length, get_or, take, drop, refl, sym, ap, ◌∙◌, add-one, drop-cons}
use Rattle.std.proofs.lemmas.List.{take_more}
use Rattle.element.specs.Padding.{is_empty, kept_before, without_trailing, without_leading}

is_empty_end : (xs : List ℕ) (x : ℕ) → is_empty (xs ++ x ∷ []) ≡ false
is_empty_end [] x = refl
is_empty_end (y ∷ ys) x = refl

last_dropped : (p : ℕ → Bool) (xs : List ℕ) (x : ℕ) → p x ≡ true → without_trailing p (xs ++ x ∷ []) ≡ without_trailing p xs
last_dropped p [] x e = rw e refl
last_dropped p (y ∷ ys) x e = ap (kept_before p y) (last_dropped p ys x e)

last_kept : (p : ℕ → Bool) (xs : List ℕ) (x : ℕ) → p x ≡ false → without_trailing p (xs ++ x ∷ []) ≡ xs ++ x ∷ []
last_kept p [] x e = rw e refl
last_kept p (y ∷ ys) x e = rw (last_kept p ys x e, is_empty_end ys x) refl

-- one more byte from the end is dropped
pub trailing_dropped : (p : ℕ → Bool) (xs : List ℕ) (n : ℕ) → n < length xs → p (get_or xs n 0) ≡ true → without_trailing p (take (n + 1) xs) ≡ without_trailing p (take n xs)
trailing_dropped p xs n lt e = ap (without_trailing p) (take_more xs n 0 lt) ∙ last_dropped p (take n xs) (get_or xs n 0) e

-- the last byte stays
pub trailing_kept : (p : ℕ → Bool) (xs : List ℕ) (n : ℕ) → n < length xs → p (get_or xs n 0) ≡ false → without_trailing p (take (n + 1) xs) ≡ take (n + 1) xs
trailing_kept p xs n lt e = ap (without_trailing p) (take_more xs n 0 lt) ∙ (last_kept p (take n xs) (get_or xs n 0) e ∙ sym (take_more xs n 0 lt))

pub leading_dropped : (p : ℕ → Bool) (xs : List ℕ) (n : ℕ) → n < length xs → p (get_or xs n 0) ≡ true → without_leading p (drop n xs) ≡ without_leading p (drop (n + 1) xs)
leading_dropped p xs n lt e = rw (drop-cons xs n 0, e, add-one) refl

pub leading_kept : (p : ℕ → Bool) (xs : List ℕ) (n : ℕ) → n < length xs → p (get_or xs n 0) ≡ false → without_leading p (drop n xs) ≡ drop n xs
leading_kept p xs n lt e = rw (drop-cons xs n 0, e) refl
