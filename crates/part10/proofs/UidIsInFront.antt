-- The unique identifier of a value is that of its front where padding follows (`uid_in_front`), and it is none where
-- more follows the first 64 bytes (`no_uid`). Stands on the definitions alone.
use Rattle.std.proofs.Common.{◌≡◌, ℕ, ◌+◌, ◌<◌, ◌≤◌, Bool, true, false, ◌&&◌, List, [], ◌∷◌, ◌++◌, length, Option, None, refl, sym, ap, ◌∙◌, arith, length-append, nat_le}
use Rattle.std.proofs.lemmas.Bool.Decides.{nat_tests}
use Rattle.std.specs.List.{list_all}
use Rattle.std.specs.Io.KnownBytes.{Consumes}
use Rattle.element.specs.Padding.{is_padding, is_empty, kept_before, without_trailing}
use Rattle.element.specs.Uid.{is_uid, is_uid_character, uid_of, if_uid}

-- the part of a value that was read, and what is left of it
pub record Padded (size remaining : ℕ) (padding : Bool) (old now : Option (List ℕ)) : Type 0 where
  pub text : List ℕ
  pub consumed : Consumes old now text
  pub counted : length text + remaining ≡ size
  pub is : padding ≡ is_empty (without_trailing is_padding text)

onto_kept : (x : ℕ) (rest : List ℕ) → is_empty rest ≡ false → kept_before is_padding x rest ≡ x ∷ rest
onto_kept x rest e = rw e refl

nothing : (xs : List ℕ) → is_empty xs ≡ true → xs ≡ []
nothing [] e = refl
nothing (x ∷ xs) e = absurd cc

not_empty : (u v : List ℕ) → is_empty v ≡ false → is_empty (u ++ v) ≡ false
not_empty [] v e = e
not_empty (x ∷ u) v e = refl

-- padding at the end is dropped with the padding before it
all_padding : (u v : List ℕ) → is_empty (without_trailing is_padding v) ≡ true → without_trailing is_padding (u ++ v) ≡ without_trailing is_padding u
all_padding [] v e = nothing (without_trailing is_padding v) e
all_padding (x ∷ u) v e = ap (kept_before is_padding x) (all_padding u v e)

-- what is no padding keeps all before it
some_text : (u v : List ℕ) → is_empty (without_trailing is_padding v) ≡ false → without_trailing is_padding (u ++ v) ≡ u ++ without_trailing is_padding v
some_text [] v e = refl
some_text (x ∷ u) v e =
    ap (kept_before is_padding x) (some_text u v e) ∙ onto_kept x (u ++ without_trailing is_padding v) (not_empty u (without_trailing is_padding v) e)

pub both_padding : (u v : List ℕ) → is_empty (without_trailing is_padding (u ++ v)) ≡ is_empty (without_trailing is_padding u) && is_empty (without_trailing is_padding v)
both_padding u v = by (is_empty (without_trailing is_padding v)) refl
  where
    and_true : (b : Bool) → b ≡ b && true
    and_true true = refl
    and_true false = refl

    and_false : (b : Bool) → false ≡ b && false
    and_false true = refl
    and_false false = refl

    by : (b : Bool) → is_empty (without_trailing is_padding v) ≡ b → is_empty (without_trailing is_padding (u ++ v)) ≡ is_empty (without_trailing is_padding u) && b
    by true e = ap is_empty (all_padding u v e) ∙ and_true (is_empty (without_trailing is_padding u))
    by false e = ap is_empty (some_text u v e) ∙ (not_empty u (without_trailing is_padding v) e ∙ and_false (is_empty (without_trailing is_padding u)))

too_long : (text : List ℕ) → 64 < length text → is_uid text ≡ false
too_long text long =
    let over : nat_le (length text) 64 ≡ false = grind (arith, nat_tests) in
    rw over (by (nat_le 1 (length text)))
  where
    by : (b : Bool) → (b && false && list_all is_uid_character text) ≡ false
    by true = refl
    by false = refl

-- the value is its first 64 bytes and padding
pub uid_in_front : (u v : List ℕ) → true ≡ is_empty (without_trailing is_padding v) → uid_of (u ++ v) ≡ uid_of u
uid_in_front u v e = ap if_uid (all_padding u v (sym e))

some_length : (xs : List ℕ) → is_empty xs ≡ false → 0 < length xs
some_length [] e = absurd cc
some_length (x ∷ xs) e = omega arith

pub padding_none : (v : List ℕ) → false ≡ is_empty (without_trailing is_padding v) → 0 < length v
padding_none [] e = absurd cc
padding_none (x ∷ v) e = omega arith

-- more follows the first 64 bytes
pub no_uid : (u v : List ℕ) → 64 ≤ length u → false ≡ is_empty (without_trailing is_padding v) → uid_of (u ++ v) ≡ None
no_uid u v long e =
    let more : 0 < length (without_trailing is_padding v) = some_length (without_trailing is_padding v) (sym e) in
    let size : length (u ++ without_trailing is_padding v) ≡ length u + length (without_trailing is_padding v) = length-append u (without_trailing is_padding v) in
    rw (some_text u v (sym e), too_long (u ++ without_trailing is_padding v) (omega (arith, more, size, long))) refl
