-- Value representations (PS3.5 section 6.2).
use Rattle.std.specs.Prelude.{◌≡◌, ℕ, Bool, true, false, not, ◌&&◌, ◌||◌, List, length, get_or, nat_eq, nat_le, Option, Some, None, if◌then◌else◌}

-- a letter from A to Z
-- e.g. is_capital 65 ≡ true; is_capital 97 ≡ false
abbrev pub is_capital : ℕ → Bool
is_capital c = nat_le 65 c && nat_le c 90

-- two capital letters
abbrev pub IsVr : List ℕ → Type 0
IsVr letters = (is_capital (get_or letters 0 0) && is_capital (get_or letters 1 0)) ≡ true

-- none, or two letters that are capital
abbrev pub IsVrOrNone : Option (List ℕ) → Type 0
IsVrOrNone None = Unit {0}
IsVrOrNone (Some letters) = IsVr letters × (length letters ≡ 2)

-- the VRs with a length of two bytes in Explicit (PS3.5 section 7.1.2): AE AS AT, CS, DA DS DT, FL FD, IS,
-- LO LT, PN, SH SL SS ST, TM, UI UL US; every other one has a length of four bytes
-- e.g. is_short 85 73 ≡ true; is_short 79 66 ≡ false
unfoldable pub is_short : ℕ → ℕ → Bool
is_short a b =
    if nat_eq a 65 then (nat_eq b 69 || nat_eq b 83 || nat_eq b 84)
    else (if nat_eq a 67 then (nat_eq b 83)
    else (if nat_eq a 68 then (nat_eq b 65 || nat_eq b 83 || nat_eq b 84)
    else (if nat_eq a 70 then (nat_eq b 76 || nat_eq b 68)
    else (if nat_eq a 73 then (nat_eq b 83)
    else (if nat_eq a 76 then (nat_eq b 79 || nat_eq b 84)
    else (if nat_eq a 80 then (nat_eq b 78)
    else (if nat_eq a 83 then (nat_eq b 72 || nat_eq b 76 || nat_eq b 83 || nat_eq b 84)
    else (if nat_eq a 84 then (nat_eq b 77)
    else (if nat_eq a 85 then (nat_eq b 73 || nat_eq b 76 || nat_eq b 83)
    else false)))))))))

-- whether a VR of these two letters has a length field of two bytes in Explicit (PS3.5 7.1.2)
-- e.g. is_short_vr (codes "UI") ≡ true; is_short_vr (codes "SQ") ≡ false
abbrev pub is_short_vr : List ℕ → Bool
is_short_vr letters = is_short (get_or letters 0 0) (get_or letters 1 0)

-- whether the length has four bytes in Explicit
abbrev pub is_long : List ℕ → Bool
is_long letters = not (is_short_vr letters)

-- the VR of two bytes, if these are capital letters
abbrev pub vr_of : List ℕ → Option (List ℕ)
vr_of letters = if is_capital (get_or letters 0 0) && is_capital (get_or letters 1 0) then Some letters else None
