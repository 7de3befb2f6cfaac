-- When a file of numbers is written: at once, then five seconds after the last time if it is out of date, else a minute
-- after it, so that its age shows whether the program still runs. This product's own profile. Times are in nanoseconds.
use Rattle.std.specs.Prelude.{ℕ, ◌-◌, Option, Some, None, Bool, if◌then◌else◌, option_map}
use Rattle.std.specs.Time.{instant_nanos}
use Rattle.metrics.specs.declared.pace.Pace.{Pace}

-- when the file was last written, or was to be, and whether it is out of date
pub record Pacing : Type 0 where
  pub tried : Option ℕ
  pub behind : Bool

-- how long the file stays as it is
abbrev pub period : Bool → ℕ
period behind = if behind then 5000000000 else 60000000000

-- how long after `now` the file is due, if it is due so long after it was last tried, and at once if it never was
abbrev pub remaining_since : Option ℕ → ℕ → ℕ → ℕ
remaining_since None due now = 0
remaining_since (Some tried) due now = due - (now - tried)

-- how long after this time the file is due
abbrev pub time_remaining : Pacing → ℕ → ℕ
time_remaining p now = remaining_since p.tried (period p.behind) now

abbrev pub pacing_of : Pace → Pacing
pacing_of p = record { tried = option_map (λ t. instant_nanos t) p.tried; behind = p.is_behind }
