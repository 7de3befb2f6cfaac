-- One zero byte at the end of a value is dropped (`zero_dropped`), and no other byte (`other_kept`, `none_kept`). Stands on
-- the definitions alone.
use Rattle.std.proofs.Common.{◌≡◌, ◌≢◌, ℕ, zero, suc, ◌+◌, false, List, [], ◌∷◌, length, get_or, take, refl, ap, arith, nat_eq}
use Rattle.std.proofs.lemmas.Bool.Decides.{nat_tests}
use Rattle.element.specs.Values.{without_last_zero}

pub zero_dropped : (xs : List ℕ) (n : ℕ) → length xs ≡ n + 1 → get_or xs n 0 ≡ 0 → without_last_zero xs ≡ take n xs
zero_dropped [] n e z = absurd (omega arith)
zero_dropped (c ∷ []) zero e z = rw z refl
zero_dropped (c ∷ []) (suc n) e z = absurd (omega arith)
zero_dropped (c ∷ d ∷ more) zero e z = absurd (omega arith)
zero_dropped (c ∷ d ∷ more) (suc n) e z = ap (λ t. c ∷ t) (zero_dropped (d ∷ more) n (omega arith) z)

pub other_kept : (xs : List ℕ) (n : ℕ) → length xs ≡ n + 1 → get_or xs n 0 ≢ 0 → without_last_zero xs ≡ xs
other_kept [] n e z = absurd (omega arith)
other_kept (c ∷ []) zero e z = let test : nat_eq c 0 ≡ false = grind (arith, nat_tests) in rw test refl
other_kept (c ∷ []) (suc n) e z = absurd (omega arith)
other_kept (c ∷ d ∷ more) zero e z = absurd (omega arith)
other_kept (c ∷ d ∷ more) (suc n) e z = ap (λ t. c ∷ t) (other_kept (d ∷ more) n (omega arith) z)

pub none_kept : (xs : List ℕ) → length xs ≡ 0 → without_last_zero xs ≡ xs
none_kept [] e = refl
none_kept (c ∷ xs) e = absurd (omega arith)
