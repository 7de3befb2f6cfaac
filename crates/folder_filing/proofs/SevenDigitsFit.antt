-- The digits that were read and those to come spell the number (`one_more`), which is below 10,000,000 where they are
-- seven (`room_for_one`). Stands on the definitions alone.
use Rattle.std.proofs.Common.{◌≡◌, false, ℕ, zero, suc, ◌+◌, ◌-◌, ◌*◌, ◌≤◌, ◌<◌, List, ◌∷◌, length, get_or, drop, drop-cons, sym, ap, subst, ◌∙◌, arith, nat_lt}
use Rattle.std.proofs.lemmas.Bool.{le-ltb}
use Rattle.std.proofs.Math.Nat.{mul_assoc, mul-le-mul_right, le-mul_of_pos_right}
use Rattle.folder_filing.specs.EntryNames.{number_after}

-- so many tens, multiplied
abbrev pub tens : ℕ → ℕ
tens zero = 1
tens (suc n) = 10 * tens n

pub some_tens : (n : ℕ) → 1 ≤ tens n
some_tens zero = omega arith
some_tens (suc n) = let before : 1 ≤ tens n = some_tens n in omega arith

pub one_less : (number digit power : ℕ) → digit ≤ 9 → (number + 1) * (10 * power) ≤ 10000000 → (number * 10 + digit + 1) * power ≤ 10000000
one_less number digit power few room =
    let least : (number * 10 + digit + 1) * power ≤ ((number + 1) * 10) * power = mul-le-mul_right power (let h : number * 10 + digit + 1 ≤ (number + 1) * 10 = omega arith in h) in
    let same : ((number + 1) * 10) * power ≡ (number + 1) * (10 * power) = mul_assoc (number + 1) 10 power in
    omega arith

pub below : (number power : ℕ) → 1 ≤ power → (number + 1) * power ≤ 10000000 → number < 10000000
below number power some room = let h : number + 1 ≤ (number + 1) * power = le-mul_of_pos_right (number + 1) some in omega arith

-- one digit more
step_is : (number digit : ℕ) (rest : List ℕ) → 48 ≤ digit → digit ≤ 57 → number_after number (digit ∷ rest) ≡ number_after (number * 10 + (digit - 48)) rest
step_is number digit rest least most = let low : nat_lt digit 48 ≡ false = le-ltb digit 48 least in let high : nat_lt 57 digit ≡ false = le-ltb 57 digit most in simp (low, high)

-- what is kept of the digits that were read: they and those to come spell the number, and there is room for these
abbrev pub Spells : List ℕ → ℕ → List ℕ → Type 0
Spells digits number rest = (number_after number rest ≡ number_after 0 digits) × ((number + 1) * tens (length rest) ≤ 10000000)

pub one_more : (digits : List ℕ) (i number value : ℕ) → i < length digits → 48 ≤ get_or digits i 0 → get_or digits i 0 ≤ 57 → value ≡ get_or digits i 0 - 48
    → Spells digits number (drop i digits) → Spells digits (number * 10 + value) (drop (i + 1) digits)
one_more digits i number value more least most read spells =
    let cut : drop i digits ≡ get_or digits i 0 ∷ drop (i + 1) digits =
    drop-cons digits i 0 more ∙ ap (λ (n : ℕ). get_or digits i 0 ∷ drop n digits) (let next : suc i ≡ i + 1 = omega arith in next) in
    let spelled : Spells digits number (get_or digits i 0 ∷ drop (i + 1) digits) = subst (λ (xs : List ℕ). Spells digits number xs) cut spells in
    let few : value ≤ 9 = omega arith in (
      ap (λ (v : ℕ). number_after (number * 10 + v) (drop (i + 1) digits)) read ∙ sym (step_is number (get_or digits i 0) (drop (i + 1) digits) least most) ∙ spelled.0,
      one_less number value (tens (length (drop (i + 1) digits))) few spelled.1,
    )

-- there is room for one digit more
pub room_for_one : (digits : List ℕ) (i number value : ℕ) → i < length digits → 48 ≤ get_or digits i 0 → get_or digits i 0 ≤ 57 → value ≡ get_or digits i 0 - 48
    → Spells digits number (drop i digits) → number * 10 + value < 10000000
room_for_one digits i number value more least most read spells =
    below (number * 10 + value) (tens (length (drop (i + 1) digits))) (some_tens (length (drop (i + 1) digits))) (one_more digits i number value more least most read spells).1
