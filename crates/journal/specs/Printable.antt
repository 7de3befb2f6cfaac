-- What a log shows of bytes: printable ASCII alone. This product's own profile.
use Rattle.std.specs.Prelude.{ℕ, Bool, ◌&&◌, nat_le, if◌then◌else◌}

-- a space or a graphic character of ASCII
abbrev pub is_printable : ℕ → Bool
is_printable byte = nat_le 32 byte && nat_le byte 126

-- a question mark stands for what does not print
abbrev pub shown : ℕ → ℕ
shown byte = if is_printable byte then byte else 63
