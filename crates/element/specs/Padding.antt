-- Padding of values (PS3.5 section 6.2).
use Rattle.std.specs.Prelude.{ℕ, ◌%◌, Bool, true, false, ◌&&◌, ◌||◌, List, [], ◌∷◌, ◌++◌, length, nat_eq, if◌then◌else◌}

-- whether the byte is a space, 20H
abbrev pub is_space : ℕ → Bool
is_space c = nat_eq c 32

-- a space or a zero byte
-- e.g. is_padding 0 ≡ true
abbrev pub is_padding : ℕ → Bool
is_padding c = nat_eq c 32 || nat_eq c 0

-- whether the list has no byte
-- e.g. is_empty (0 ∷ []) ≡ false
abbrev pub is_empty : List ℕ → Bool
is_empty [] = true
is_empty (x ∷ xs) = false

-- a byte put before the bytes that are kept so far: it is dropped, too, if none are kept yet and p holds for it
-- e.g. kept_before is_space 32 [] ≡ []; kept_before is_space 32 (65 ∷ []) ≡ 32 ∷ 65 ∷ []
abbrev pub kept_before : (ℕ → Bool) → ℕ → List ℕ → List ℕ
kept_before p x rest = if is_empty rest && p x then [] else x ∷ rest

-- the text without the bytes at its end for which p holds
-- e.g. without_trailing is_padding (codes "1.2" ++ 0 ∷ []) ≡ codes "1.2"
abbrev pub without_trailing : (ℕ → Bool) → List ℕ → List ℕ
without_trailing p [] = []
without_trailing p (x ∷ xs) = kept_before p x (without_trailing p xs)

-- the text without the bytes at its front for which p holds
-- e.g. without_leading is_space (codes "  A B") ≡ codes "A B"
abbrev pub without_leading : (ℕ → Bool) → List ℕ → List ℕ
without_leading p [] = []
without_leading p (x ∷ xs) = if p x then without_leading p xs else x ∷ xs

-- the value with one byte of padding after it where its length is odd: 00H after an identifier, a space after text
-- e.g. padded 0 (codes "1.2") ≡ codes "1.2" ++ 0 ∷ []; padded 0 (codes "1.23") ≡ codes "1.23"
abbrev pub padded : (padding : ℕ) → List ℕ → List ℕ
padded padding value = if nat_eq (length value % 2) 0 then value else value ++ padding ∷ []
