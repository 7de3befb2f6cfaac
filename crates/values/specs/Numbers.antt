-- Numbers in decimal text (PS3.5 table 6.2-1, IS and DS).
use Rattle.std.specs.Prelude.{ℕ, ◌+◌, ◌-◌, ◌*◌, Bool, true, false, ◌||◌, List, nat_eq, nat_le, if◌then◌else◌}
use Rattle.std.specs.List.{list_any, fold}
use Rattle.element.specs.Values.{is_digit}
use Rattle.values.specs.Moment.{is_sign}
use Rattle.values.specs.declared.numbers.Spelled.{Spelled}
pub use Rattle.values.specs.declared.numbers.Spelled.TheVariants.{Nothing, Sign, Whole, Point, Fraction, Exponent, ExponentSign, Power, Broken}

abbrev pub after_digit : Spelled → Spelled
after_digit Nothing = Whole
after_digit Sign = Whole
after_digit Whole = Whole
after_digit Point = Fraction
after_digit Fraction = Fraction
after_digit Exponent = Power
after_digit ExponentSign = Power
after_digit Power = Power
after_digit Broken = Broken

abbrev pub after_sign : Spelled → Spelled
after_sign Nothing = Sign
after_sign Exponent = ExponentSign
after_sign _ = Broken

-- the state after a decimal point, which may stand before or after the digits
abbrev pub after_point : Spelled → Spelled
after_point Nothing = Point
after_point Sign = Point
after_point Whole = Fraction
after_point _ = Broken

abbrev pub after_exponent : Spelled → Spelled
after_exponent Whole = Exponent
after_exponent Fraction = Exponent
after_exponent _ = Broken

abbrev pub after_space : Spelled → Spelled
after_space Nothing = Nothing
after_space _ = Broken

-- the state after one more character: a digit, a sign, a point, E or e, a space
abbrev pub after : Spelled → ℕ → Spelled
after spelled c =
    if is_digit c then after_digit spelled
    else (if is_sign c then after_sign spelled
    else (if nat_eq c 46 then after_point spelled
    else (if nat_eq c 69 || nat_eq c 101 then after_exponent spelled
    else (if nat_eq c 32 then after_space spelled
    else Broken))))

abbrev pub ends_whole : Spelled → Bool
ends_whole Whole = true
ends_whole _ = false

abbrev pub ends_decimal : Spelled → Bool
ends_decimal Whole = true
ends_decimal Fraction = true
ends_decimal Power = true
ends_decimal _ = false

-- an integer: digits with or without a sign, after any spaces
abbrev pub is_integer : List ℕ → Bool
is_integer text = ends_whole (fold after Nothing text)

-- a decimal number: with or without a sign, a point and an exponent, after any spaces
abbrev pub is_decimal : List ℕ → Bool
is_decimal text = ends_decimal (fold after Nothing text)

-- a number with one more decimal digit, at most 2^32 - 1
abbrev pub with_digit : ℕ → ℕ → ℕ
with_digit number c =
    if is_digit c then (if nat_le (number * 10 + (c - 48)) 4_294_967_295 then number * 10 + (c - 48) else 4_294_967_295)
    else number

abbrev pub is_minus : ℕ → Bool
is_minus c = nat_eq c 45

-- an integer from -2^31 to 2^31 - 1
abbrev pub fits_32_bits : List ℕ → Bool
fits_32_bits text = nat_le (fold with_digit 0 text) (if list_any is_minus text then 2_147_483_648 else 2_147_483_647)
