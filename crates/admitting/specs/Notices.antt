-- The rate limit of repeated log messages, so that a log does not fill. This product's own profile. Times are in
-- nanoseconds.
use Rattle.std.specs.Prelude.{ℕ, ◌+◌, ◌≤◌, Option, Some, None}

-- a message that was last logged at this time, or never, may be logged at the other: a minute later or more
abbrev pub IsReportedAgain : Option ℕ → ℕ → Type 0
IsReportedAgain None now = Unit {0}
IsReportedAgain (Some reported) now = reported + 60000000000 ≤ now
