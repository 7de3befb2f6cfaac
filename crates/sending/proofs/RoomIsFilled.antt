-- The front of a room that was filled before, and what was read after it (`filled_on`). Stands on the definitions alone.
use Rattle.std.proofs.Common.{◌≡◌, ℕ, List, ◌≤◌, ◌+◌, ◌++◌, length, take, take-add, arith, refl, append_assoc}
use Rattle.std.proofs.lemmas.List.{take_at, drop_at, take-append-le, length-take}

take_past : (at n : ℕ) (xs ys zs : List ℕ) → at ≤ length xs → n ≤ length ys → take (at + n) (take at xs ++ (ys ++ zs)) ≡ take at xs ++ take n ys
take_past at n xs ys zs p q =
    let len : length (take at xs) ≡ at = omega (arith, length-take at xs) in
    rw (take-add, take_at (take at xs) (ys ++ zs) at len, drop_at (take at xs) (ys ++ zs) at len, take-append-le n ys zs q) refl

pub filled_on : (first before after : List ℕ) (at n : ℕ) (xs ys zs : List ℕ) → at ≤ length xs → n ≤ length ys
    → before ≡ first ++ take at xs
    → after ≡ before ++ take n ys
    → after ≡ first ++ take (at + n) (take at xs ++ (ys ++ zs))
filled_on first before after at n xs ys zs p q b a = rw (take_past at n xs ys zs p q, a, b) (append_assoc first (take at xs) (take n ys))
