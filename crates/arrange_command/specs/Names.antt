-- Names of files and folders, made from values of data sets (this product's own profile).
use Rattle.std.specs.Prelude.{ℕ, ◌≤◌, ◌≢◌, Bool, ◌&&◌, not, List, [], ◌∷◌, length, map, nat_eq, nat_le, nat_lt, if◌then◌else◌}
use Rattle.element.specs.Padding.{is_padding, without_trailing}

-- `_`, which replaces the bytes that a name may not have
abbrev pub blank : ℕ
blank = 95

-- a byte that a name may have: a printable ASCII character or a space, except `/`
abbrev pub is_kept : ℕ → Bool
is_kept b = nat_le 32 b && (nat_le b 126 && not (nat_eq b 47))

abbrev pub kept_or_blank : ℕ → ℕ
kept_or_blank b = if is_kept b then b else blank

-- the byte at the front of a name: `_` also in place of `.`
abbrev pub front_or_blank : ℕ → ℕ
front_or_blank b = if nat_eq b 46 then blank else kept_or_blank b

-- the name for a text: `_` for an empty one
abbrev pub named : List ℕ → List ℕ
named [] = blank ∷ []
named (b ∷ bs) = front_or_blank b ∷ map kept_or_blank bs

-- the name for a value: that for its text without padding, and `_` if it has more than 230 bytes
abbrev pub name_for : List ℕ → List ℕ
name_for value = if nat_lt 230 (length value) then blank ∷ [] else named (without_trailing is_padding value)

-- a byte of a name: a printable ASCII character or a space, and not `/`
abbrev pub IsNameByte : ℕ → Type 0
IsNameByte b = (32 ≤ b) × (b ≤ 126) × (b ≢ 47)
