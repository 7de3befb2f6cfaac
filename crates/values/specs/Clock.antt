-- Times of day (PS3.5 table 6.2-1, TM).
use Rattle.std.specs.Prelude.{ℕ, Bool, true, false, ◌&&◌, List, [], ◌∷◌, length, nat_eq, nat_le}
use Rattle.std.specs.List.{list_all}
use Rattle.element.specs.Values.{is_digit}
use Rattle.values.specs.Calendar.{are_at_most}

-- a fraction of a second: nothing, or a point and one to six digits
abbrev pub is_fraction : List ℕ → Bool
is_fraction [] = true
is_fraction (point ∷ digits) = nat_eq point 46 && nat_le 1 (length digits) && nat_le (length digits) 6 && list_all is_digit digits

-- a time of day that exists: HH, HHMM, or HHMMSS with or without a fraction; seconds go up to 60, for a leap second
abbrev pub is_time : List ℕ → Bool
is_time (a ∷ b ∷ []) = are_at_most 23 a b
is_time (a ∷ b ∷ c ∷ d ∷ []) = are_at_most 23 a b && are_at_most 59 c d
is_time (a ∷ b ∷ c ∷ d ∷ e ∷ f ∷ fraction) = are_at_most 23 a b && are_at_most 59 c d && are_at_most 60 e f && is_fraction fraction
is_time _ = false
