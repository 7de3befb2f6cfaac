-- When two readers return the same bytes. This product's own profile.
use Rattle.std.specs.Prelude.{◌≡◌, ⊤, ℕ, List, Option, Some, None}

-- the remaining bytes of both readers are the same, if both are known
abbrev pub GiveTheSame : Option (List ℕ) → Option (List ℕ) → Type 0
GiveTheSame None other = ⊤
GiveTheSame (Some one) None = ⊤
GiveTheSame (Some one) (Some other) = one ≡ other
