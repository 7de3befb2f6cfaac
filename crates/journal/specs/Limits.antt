-- How often lines are written that peers can cause. This product's own profile. Times are in nanoseconds.
use Rattle.std.specs.Prelude.{ℕ, ◌*◌, ◌-◌, Bool, true, nat_le, Option, Some, None}

-- whether a span of so many seconds that began at this time is over, or none began
abbrev pub is_over : Option ℕ → ℕ → ℕ → Bool
is_over None seconds now = true
is_over (Some began) seconds now = nat_le (seconds * 1000000000) (now - began)
