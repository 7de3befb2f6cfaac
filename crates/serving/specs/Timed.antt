-- When the inputs of a connection occurred, and that the server's own were due: the ARTIM timer expires (PS3.8 section
-- 9.1.5) no sooner than its time after the input that started it; the rest is this product's own profile.
use Rattle.std.specs.Prelude.{◌≡◌, ◌≢◌, ℕ, Bool, true, false, List, [], ◌∷◌, None}
use Rattle.std.specs.Time.{instant_nanos}
use Rattle.acceptor.specs.Effect.{timer_runs}
use Rattle.negotiate.specs.Settings.{Settings}
use Rattle.part10.specs.Store.{Store}
use Rattle.engine.specs.Inputs.{Received, Bytes, Close, Expiry, UserAbort}
use Rattle.serving.specs.Served.{IsServed}
use Rattle.serving.specs.TimeLimits.{TimeLimits, HasExpired, IsSilent, IsSince, started_anew}
use Rattle.serving.specs.declared.exchange.Exchange.{Exchange}
use Rattle.serving.specs.declared.moment.Moment.{Moment}

-- the peer is heard at this time if the input is a piece, and with no other input
abbrev pub Hears : Received → TimeLimits → TimeLimits → ℕ → Type 0
Hears (Bytes piece) old new now = (new.heard ≡ now) × (new.consumed ≡ None)
Hears Close old new now = new.heard ≡ old.heard
Hears Expiry old new now = new.heard ≡ old.heard
Hears UserAbort old new now = new.heard ≡ old.heard

-- The times before and after an input that occurred at this time: the timer starts anew exactly if another state is
-- entered in which it runs, and the peer accepted nothing before it was last heard.
pub record Follows (input : Received) (old new : TimeLimits) (now : ℕ) : Type 0 where
  pub artim : new.artim ≡ old.artim
  pub idle : new.idle ≡ old.idle
  pub stays : new.state ≡ old.state → new.started ≡ old.started
  pub anew : new.state ≢ old.state → new.started ≡ started_anew (timer_runs new.state) now
  pub hears : Hears input old new now
  pub since : IsSince new.consumed new.heard

-- the same times, except when the peer last accepted anything
pub record SameTimes (old new : TimeLimits) : Type 0 where
  pub artim : new.artim ≡ old.artim
  pub idle : new.idle ≡ old.idle
  pub state : new.state ≡ old.state
  pub started : new.started ≡ old.started
  pub heard : new.heard ≡ old.heard

-- With these times before it, an input was due at its moment: the expiry if the timer has expired, and an abort that
-- was not requested if the peer has been silent for the idle time.
abbrev pub IsDue : Received → TimeLimits → Moment → Type 0
IsDue (Bytes piece) limits moment = Unit {0}
IsDue Close limits moment = Unit {0}
IsDue Expiry limits moment = HasExpired limits (instant_nanos moment.now) limits.started
IsDue UserAbort limits moment = moment.is_asked ≡ false → IsSilent moment.remaining.value (instant_nanos moment.now) limits.started

-- from the first of these times to the last, the inputs occurred at these moments, and each was due
abbrev pub Timed : TimeLimits → List Received → List Moment → TimeLimits → Type 0
Timed limits [] [] last = SameTimes limits last
Timed limits [] (moment ∷ moments) last = ⊥
Timed limits (input ∷ inputs) [] last = ⊥
Timed limits (input ∷ inputs) (moment ∷ moments) last = IsDue input limits moment × Follows input limits moment.remaining.value (instant_nanos moment.now) × Timed moment.remaining.value inputs moments last

-- these times, after this one if an abort was requested then
abbrev pub with_asked : Bool → ℕ → List ℕ → List ℕ
with_asked true now times = now ∷ times
with_asked false now times = times

-- when aborts were requested, in nanoseconds
abbrev pub asked_at : List Moment → List ℕ
asked_at [] = []
asked_at (moment ∷ moments) = with_asked moment.is_asked (instant_nanos moment.now) (asked_at moments)

-- a connection kept the promise, and its inputs occurred at these moments, each when it was due
abbrev pub GivenInTime : {S : Type 0} → Settings → Exchange S → Store → Store → TimeLimits → List Moment → Type 0
GivenInTime s exchange old new opened moments = (served : IsServed s exchange old new) × (last : TimeLimits) × Timed opened served.inputs moments last
