-- Date times (PS3.5 table 6.2-1, DT).
use Rattle.std.specs.Prelude.{ℕ, ◌+◌, ◌-◌, ◌*◌, Bool, false, ◌&&◌, ◌||◌, List, [], ◌∷◌, length, get_or, take, drop, nat_eq, nat_le, if◌then◌else◌}
use Rattle.values.specs.Calendar.{two_digits, are_at_most, is_date, is_month, is_year}
use Rattle.values.specs.Clock.{is_time}

abbrev pub is_sign : ℕ → Bool
is_sign c = nat_eq c 43 || nat_eq c 45

-- a date time has an offset from UTC: a sign five bytes before its end
abbrev pub has_offset : List ℕ → Bool
has_offset text = nat_le 5 (length text) && is_sign (get_or text (length text - 5) 0)

-- a date time without its offset from UTC
abbrev pub local_part : List ℕ → List ℕ
local_part text = if has_offset text then take (length text - 5) text else text

-- the offset from UTC of a date time; empty if it has none
abbrev pub offset_part : List ℕ → List ℕ
offset_part text = if has_offset text then drop (length text - 5) text else []

-- an offset from UTC: from -1200 to +1400, and not -0000
abbrev pub is_offset : List ℕ → Bool
is_offset (sign ∷ a ∷ b ∷ c ∷ d ∷ []) = are_at_most 14 a b && are_at_most 59 c d
    && (nat_eq sign 43 && nat_le (two_digits a b * 60 + two_digits c d) 840
    || nat_eq sign 45 && nat_le 1 (two_digits a b * 60 + two_digits c d) && nat_le (two_digits a b * 60 + two_digits c d) 720)
is_offset _ = false

-- a text begins with a date that exists, YYYYMMDD, or is a year, YYYY, or a year and month, YYYYMM
abbrev pub begins_with_date : List ℕ → Bool
begins_with_date (a ∷ b ∷ c ∷ d ∷ []) = is_year a b c d
begins_with_date (a ∷ b ∷ c ∷ d ∷ m ∷ n ∷ []) = is_year a b c d && is_month m n
begins_with_date text = nat_le 8 (length text) && is_date (take 8 text)

-- a text has at most eight characters, or a time that exists after the first eight
abbrev pub ends_with_time : List ℕ → Bool
ends_with_time text = nat_le (length text) 8 || is_time (drop 8 text)

abbrev pub has_date : List ℕ → Bool
has_date text = begins_with_date (local_part text)

abbrev pub has_time : List ℕ → Bool
has_time text = ends_with_time (local_part text)
