-- The number of a peer's address. Connections of one peer count together.
-- This product's own profile.
use Rattle.std.specs.Prelude.{ℕ, ◌-◌, ◌/◌, ◌%◌, nat_eq, if◌then◌else◌}

-- the number of an IPv6 address: that of the first address of its network, of 64 bits, but an address to which one of
-- IPv4 is mapped (RFC 4291 section 2.5.5.2) has its own
abbrev pub peer_of_bits : ℕ → ℕ
peer_of_bits bits = if nat_eq (bits / 4294967296) 65535 then bits else bits - bits % 18446744073709551616
