-- Dates of the Gregorian calendar (PS3.5 table 6.2-1, DA).
use Rattle.std.specs.Prelude.{ℕ, ◌+◌, ◌-◌, ◌*◌, ◌%◌, Bool, false, not, ◌&&◌, ◌||◌, List, [], ◌∷◌, nat_eq, nat_le, if◌then◌else◌}
use Rattle.element.specs.Values.{is_digit}

-- the value of two decimal digits
abbrev pub two_digits : ℕ → ℕ → ℕ
two_digits tens ones = (tens - 48) * 10 + (ones - 48)

-- whether these are two decimal digits with a value of at most `most`
abbrev pub are_at_most : ℕ → ℕ → ℕ → Bool
are_at_most most tens ones = is_digit tens && is_digit ones && nat_le (two_digits tens ones) most

abbrev pub is_leap : ℕ → Bool
is_leap year = nat_eq (year % 4) 0 && (not (nat_eq (year % 100) 0) || nat_eq (year % 400) 0)

-- how many days a month has
abbrev pub days_of : ℕ → ℕ → ℕ
days_of year month =
    if nat_eq month 2 then (if is_leap year then 29 else 28)
    else (if nat_eq month 4 || nat_eq month 6 || nat_eq month 9 || nat_eq month 11 then 30 else 31)

-- a year: four digits
abbrev pub is_year : ℕ → ℕ → ℕ → ℕ → Bool
is_year a b c d = is_digit a && is_digit b && is_digit c && is_digit d

-- a month: 01 to 12
abbrev pub is_month : ℕ → ℕ → Bool
is_month tens ones = are_at_most 12 tens ones && nat_le 1 (two_digits tens ones)

-- a day that this month of this year has
abbrev pub is_day : ℕ → ℕ → ℕ → ℕ → Bool
is_day year month tens ones = are_at_most (days_of year month) tens ones && nat_le 1 (two_digits tens ones)

-- a month and a day that it has in this year, MMDD
abbrev pub is_day_of : ℕ → ℕ → ℕ → ℕ → ℕ → Bool
is_day_of year m n tens ones = is_month m n && is_day year (two_digits m n) tens ones

-- a date that exists in the calendar, YYYYMMDD
abbrev pub is_date : List ℕ → Bool
is_date (a ∷ b ∷ c ∷ d ∷ m ∷ n ∷ tens ∷ ones ∷ []) =
    is_year a b c d && is_day_of (two_digits a b * 100 + two_digits c d) m n tens ones
is_date _ = false
