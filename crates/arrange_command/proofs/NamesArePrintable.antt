-- The name that a text gives has printable bytes alone (`named_bytes`), one at least (`named_some`), and no dot at its
-- front (`named_front`); a text without its padding is no longer (`trailing_length`). Stands on the definitions alone.
use Rattle.std.proofs.Common.{◌≢◌, ◌<◌, ◌≤◌, ℕ, Bool, List, [], ◌∷◌, length, map, get_or, ◌&&◌, cond, ◌+◌, arith}
use Rattle.std.proofs.lemmas.Bool.Decides.{nat_tests}
use Rattle.std.specs.List.{AllByRecursion}
use Rattle.element.specs.Padding.{is_empty, without_trailing}
use Rattle.arrange_command.specs.Names.{kept_or_blank, front_or_blank, named, IsNameByte}

dropped_length : (b : Bool) (x n : ℕ) (rest : List ℕ) → length rest ≤ n → length (cond b [] (x ∷ rest)) ≤ n + 1
dropped_length v1 x n rest h = grind (arith, nat_tests)

-- a text without its padding is no longer
pub trailing_length : (p : ℕ → Bool) (xs : List ℕ) → length (without_trailing p xs) ≤ length xs
trailing_length p [] = omega arith
trailing_length p (x ∷ xs) =
    let rest = without_trailing p xs in
    let h : length (cond (is_empty rest && p x) [] (x ∷ rest)) ≤ length xs + 1 = dropped_length (is_empty rest && p x) x (length xs) rest (trailing_length p xs) in
    omega (arith, h)

pub byte_kept : (b : ℕ) → IsNameByte (kept_or_blank b)
byte_kept b = grind (arith, nat_tests)

pub byte_front : (b : ℕ) → IsNameByte (front_or_blank b)
byte_front b = grind (arith, nat_tests, byte_kept)

pub bytes_kept : (bs : List ℕ) → AllByRecursion IsNameByte (map kept_or_blank bs)
bytes_kept [] = tt
bytes_kept (b ∷ bs) = (byte_kept b, bytes_kept bs)

pub no_dot : (b : ℕ) → front_or_blank b ≢ 46
no_dot b = grind (arith, nat_tests)

pub named_bytes : (text : List ℕ) → AllByRecursion IsNameByte (named text)
named_bytes [] = ((omega arith, omega arith, λ e. absurd (omega (arith, e))), tt)
named_bytes (b ∷ bs) = (byte_front b, bytes_kept bs)

pub named_some : (text : List ℕ) → 0 < length (named text)
named_some [] = omega arith
named_some (b ∷ bs) = omega arith

pub named_front : (text : List ℕ) → get_or (named text) 0 0 ≢ 46
named_front [] = λ e. absurd (omega (arith, e))
named_front (b ∷ bs) = no_dot b
