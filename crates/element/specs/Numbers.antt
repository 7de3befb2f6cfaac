-- Numbers as bytes: data sets and commands have the least byte first (PS3.5 section 7.3), PDUs the
-- greatest (PS3.8 section 9.3.1).
use Rattle.std.specs.Prelude.{ℕ, ◌<◌, List, get_or}
use Rattle.byteorder.specs.Endian.{big_bytes, little_bytes}

-- each number is a byte
abbrev pub IsBytes : List ℕ → Type 0
IsBytes bytes = (i : ℕ) → get_or bytes i 0 < 256

-- the k bytes of n, least first
-- e.g. le 258 2 ≡ 2 ∷ 1 ∷ []
abbrev pub le : ℕ → ℕ → List ℕ
le n k = little_bytes k n

-- the k bytes of n, greatest first
-- e.g. be 258 2 ≡ 1 ∷ 2 ∷ []
abbrev pub be : ℕ → ℕ → List ℕ
be n k = big_bytes k n
