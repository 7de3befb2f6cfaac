-- The texts in a file header are short: that of an AE title is no longer than its bytes (`title_text_short`), and that
-- of a transfer syntax has at most 64 bytes (`transfer_uid_short`). Stands on the laws of `dictionary`.
use Rattle.std.proofs.Common.{ℕ, suc, ◌≤◌, Bool, true, false, ◌&&◌, List, [], ◌∷◌, length, arith, if◌then◌else◌}
use Rattle.dictionary.specs.declared.transfer.Transfer.{Transfer}
use Rattle.element.specs.Padding.{is_space, is_empty, without_trailing, without_leading}
use Rattle.element.specs.Title.{title_text}
use Rattle.dictionary.specs.Transfers.{transfer_uid}
use Rattle.dictionary.proofs.Public.{transfer_short}

onto_short : (b : Bool) (x n : ℕ) (rest : List ℕ) → length rest ≤ n → length (if b then [] else x ∷ rest) ≤ suc n
onto_short true x n rest e = omega arith
onto_short false x n rest e = omega arith

trailing_short : (p : ℕ → Bool) (xs : List ℕ) → length (without_trailing p xs) ≤ length xs
trailing_short p [] = omega arith
trailing_short p (x ∷ xs) =
    onto_short (is_empty (without_trailing p xs) && p x) x (length xs) (without_trailing p xs) (trailing_short p xs)

either_short : (b : Bool) (n : ℕ) (less all : List ℕ) → length less ≤ n → length all ≤ suc n → length (if b then less else all) ≤ suc n
either_short true n less all e f = omega arith
either_short false n less all e f = f

leading_short : (p : ℕ → Bool) (xs : List ℕ) → length (without_leading p xs) ≤ length xs
leading_short p [] = omega arith
leading_short p (x ∷ xs) = either_short (p x) (length xs) (without_leading p xs) (x ∷ xs) (leading_short p xs) (omega arith)

pub title_text_short : (bytes : List ℕ) → length (title_text bytes) ≤ length bytes
title_text_short bytes =
    let after : length (without_trailing is_space (without_leading is_space bytes)) ≤ length (without_leading is_space bytes) = trailing_short is_space (without_leading is_space bytes) in
    let before : length (without_leading is_space bytes) ≤ length bytes = leading_short is_space bytes in
    omega arith

pub transfer_uid_short : (t : Transfer) → length (transfer_uid t) ≤ 64
transfer_uid_short t = omega (arith, transfer_short t)
