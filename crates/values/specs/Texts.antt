-- The characters of texts (PS3.5 section 6.1 and table 6.2-1).
use Rattle.std.specs.Prelude.{ℕ, Bool, not, ◌&&◌, ◌||◌, nat_eq, nat_le}

-- a byte that may be in a string: no control character, or ESC
abbrev pub is_string_character : ℕ → Bool
is_string_character c = nat_eq c 27 || nat_le 32 c && not (nat_eq c 127)

-- a byte that may be in a text of several lines: as in a string, or TAB, LF, FF or CR
abbrev pub is_line_character : ℕ → Bool
is_line_character c = is_string_character c || nat_eq c 9 || nat_eq c 10 || nat_eq c 12 || nat_eq c 13

-- a printable character that a URI may not have: " < > \ ^ ` { | }
abbrev pub is_unsafe : ℕ → Bool
is_unsafe c = nat_eq c 34 || nat_eq c 60 || nat_eq c 62 || nat_eq c 92 || nat_eq c 94 || nat_eq c 96 || nat_eq c 123 || nat_eq c 124 || nat_eq c 125

-- a character of a URI (RFC 3986 section 2)
abbrev pub is_locator_character : ℕ → Bool
is_locator_character c = nat_le 33 c && nat_le c 126 && not (is_unsafe c)
