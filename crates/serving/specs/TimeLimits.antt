-- How long a peer is waited for: while the ARTIM timer runs, until it expires (PS3.8 section 9.1.5); else until the
-- peer has been silent for the idle time; and how long a connection may last. Except for the timer, that is this
-- product's own profile. Times are in nanoseconds.
use Rattle.std.specs.Prelude.{◌≡◌, ℕ, ◌-◌, ◌<◌, ◌≤◌, ◌||◌, Bool, true, false, nat_le, List, Option, Some, None}
use Rattle.std.specs.List.{list_all}
use Rattle.std.specs.Duration.{as_nanos}
use Rattle.acceptor.specs.declared.state.State.{State}
use Rattle.acceptor.specs.declared.state.State.TheVariants.{Sta2}
use Rattle.serving.specs.declared.deadlines.Wait.{Wait}
use Rattle.serving.specs.declared.deadlines.Wait.TheVariants as wait

-- the two times; how long the connection may last, if that has a bound, and when it was opened; the state of the
-- association when it was last followed; when the timer started, while it runs; when the last piece arrived, or the
-- connection was opened; and when the peer last accepted anything after that, if it did
pub record TimeLimits : Type 0 where
  pub artim : ℕ
  pub idle : ℕ
  pub longest : Option ℕ
  pub opened : ℕ
  pub state : State
  pub started : Option ℕ
  pub heard : ℕ
  pub consumed : Option ℕ

-- the times of a connection that is opened at this time, which starts the timer
abbrev pub opened_at : ℕ → ℕ → Option ℕ → ℕ → TimeLimits
opened_at artim idle longest now = record { artim = artim; idle = idle; longest = longest; opened = now; state = Sta2; started = Some now; heard = now; consumed = None }

-- since when the peer has been silent: since it last accepted anything, or else since it was last heard
abbrev pub silent_since : Option ℕ → ℕ → ℕ
silent_since (Some consumed) heard = consumed
silent_since None heard = heard

-- the peer last accepted anything no earlier than it was last heard, if it did
abbrev pub IsSince : Option ℕ → ℕ → Type 0
IsSince (Some consumed) heard = heard ≤ consumed
IsSince None heard = Unit {0}

-- the start of the timer after it was started anew at this time, if it runs
abbrev pub started_anew : Bool → ℕ → Option ℕ
started_anew true now = Some now
started_anew false now = None

-- the remaining time, or why there is none
abbrev pub Remaining : Wait → ℕ → Wait → Type 0
Remaining over remaining (wait.Remaining time) = (as_nanos time ≡ remaining) × (0 < remaining)
Remaining over remaining wait.Expired = (over ≡ wait.Expired) × (remaining ≡ 0)
Remaining over remaining wait.Silent = (over ≡ wait.Silent) × (remaining ≡ 0)

-- what is waited for at this time
abbrev pub WaitsUntil : TimeLimits → ℕ → Option ℕ → Wait → Type 0
WaitsUntil limits now (Some started) = Remaining wait.Expired (limits.artim - (now - started))
WaitsUntil limits now None = Remaining wait.Silent (limits.idle - (now - silent_since limits.consumed limits.heard))

-- the timer has expired at this time
abbrev pub HasExpired : TimeLimits → ℕ → Option ℕ → Type 0
HasExpired limits now (Some started) = limits.artim ≤ now - started
HasExpired limits now None = ⊥

-- the timer does not run, and the peer was silent for the idle time
abbrev pub IsSilent : TimeLimits → ℕ → Option ℕ → Type 0
IsSilent limits now (Some started) = ⊥
IsSilent limits now None = limits.idle ≤ now - silent_since limits.consumed limits.heard

-- whether a connection that was opened at this time has lasted for the longest time, if that has a bound
unfoldable pub has_lasted : Option ℕ → ℕ → ℕ → Bool
has_lasted None opened now = false
has_lasted (Some longest) opened now = nat_le longest (now - opened)

-- whether there was a reason for each abort that was requested, at these times: the server was to end, or the
-- connection had lasted for the longest time
unfoldable pub had_reasons : Bool → Option ℕ → ℕ → List ℕ → Bool
had_reasons is_stopped longest opened asked = is_stopped || list_all (has_lasted longest opened) asked
