-- Each input is given at its moment, where it is due (`timed_more`), over times of which only when the peer last consumed anything may
-- change (`still_timed`); and an input more is the server's own or it is not (`own_more`, `own_same`).
use Rattle.std.proofs.Common.{◌≡◌, ◌≢◌, ℕ, Bool, true, false, List, [], ◌∷◌, ◌++◌, Option, Some, None, refl, sym, ap, subst, ◌∙◌, append-nil, arith}
use Rattle.std.specs.Time.{instant_nanos}
use Rattle.acceptor.specs.declared.state.State.{State}
use Rattle.acceptor.specs.Effect.{timer_runs}
use Rattle.engine.specs.declared.source.Input.{Input}
use Rattle.engine.specs.declared.source.Input.TheVariants.{Piece, Closed, Expired, LocalAbort}
use Rattle.engine.specs.Inputs.{Received, Bytes, Close, Expiry, UserAbort, input_of, inputs_of}
use Rattle.serving.proofs.InputsAddTheirPieces.{inputs_more}
use Rattle.serving.specs.declared.moment.Moment.{Moment}
use Rattle.serving.specs.Own.{own_of}
use Rattle.serving.specs.Timed.{Follows, Hears, IsDue, SameTimes, Timed, asked_at, with_asked}
use Rattle.serving.specs.TimeLimits.{TimeLimits, HasExpired, IsSilent, IsSince, started_anew}

-- ---- the server's own

own_then : (xs ys : List Received) → own_of (xs ++ ys) ≡ own_of xs ++ own_of ys
own_then [] ys = refl
own_then (Bytes piece ∷ xs) ys = own_then xs ys
own_then (Close ∷ xs) ys = own_then xs ys
own_then (Expiry ∷ xs) ys = ap (λ (os : List Received). Expiry ∷ os) (own_then xs ys)
own_then (UserAbort ∷ xs) ys = ap (λ (os : List Received). UserAbort ∷ os) (own_then xs ys)

-- an input more, as it adds to them
pub own_more : (named named_new : List (Input × List ℕ)) (kind : Input) (bytes : List ℕ) → named_new ≡ named ++ (kind, bytes) ∷ []
    → own_of (inputs_of named_new) ≡ own_of (inputs_of named) ++ own_of (input_of kind bytes ∷ [])
own_more named named_new kind bytes pushed =
    ap (λ (xs : List (Input × List ℕ)). own_of (inputs_of xs)) pushed ∙ ap own_of (inputs_more named kind bytes) ∙ own_then (inputs_of named) (input_of kind bytes ∷ [])

pub own_same : (named named_new : List (Input × List ℕ)) (kind : Input) (bytes : List ℕ) → named_new ≡ named ++ (kind, bytes) ∷ [] → own_of (input_of kind bytes ∷ []) ≡ []
    → own_of (inputs_of named_new) ≡ own_of (inputs_of named)
own_same named named_new kind bytes pushed none =
    own_more named named_new kind bytes pushed ∙ ap (λ (os : List Received). own_of (inputs_of named) ++ os) none ∙ append-nil (own_of (inputs_of named))

-- ---- when aborts were asked for

asked_then : (moments : List Moment) (moment : Moment) → asked_at (moments ++ moment ∷ []) ≡ asked_at moments ++ with_asked moment.is_asked (instant_nanos moment.now) []
asked_then [] moment = refl
asked_then (m ∷ moments) moment = then_over m.is_asked (instant_nanos m.now) _ _ _ (asked_then moments moment)
  where
    then_over : (asked : Bool) (now : ℕ) (xs ys zs : List ℕ) → xs ≡ ys ++ zs → with_asked asked now xs ≡ with_asked asked now ys ++ zs
    then_over true now xs ys zs e = ap (λ (ts : List ℕ). now ∷ ts) e
    then_over false now xs ys zs e = e

-- with a moment more
module _ (moments moments_new : List Moment) (moment : Moment) (pushed : moments_new ≡ moments ++ moment ∷ []) where
  pub asked_more : asked_at moments_new ≡ asked_at moments ++ with_asked moment.is_asked (instant_nanos moment.now) []
  asked_more = ap asked_at pushed ∙ asked_then moments moment

  pub asked_same : moment.is_asked ≡ false → asked_at moments_new ≡ asked_at moments
  asked_same unasked = asked_more ∙ ap (λ (b : Bool). asked_at moments ++ with_asked b (instant_nanos moment.now) []) unasked ∙ append-nil (asked_at moments)

  -- none was asked for, nor is one now
  pub none_asked : asked_at moments_new ≡ [] → (asked_at moments ≡ []) × (moment.is_asked ≡ false)
  none_asked none = none_in (asked_at moments) moment.is_asked (instant_nanos moment.now) (sym asked_more ∙ none)
    where
      none_in : (xs : List ℕ) (asked : Bool) (now : ℕ) → xs ++ with_asked asked now [] ≡ [] → (xs ≡ []) × (asked ≡ false)
      none_in [] true now e = absurd cc
      none_in [] false now e = (refl, refl)
      none_in (x ∷ xs) asked now e = absurd cc

-- ---- moments

same_times : (limits : TimeLimits) → SameTimes limits limits
same_times limits = record { artim = refl; idle = refl; state = refl; started = refl; heard = refl }

times_then : (a b c : TimeLimits) → SameTimes a b → SameTimes b c → SameTimes a c
times_then a b c h k = record { artim = k.artim ∙ h.artim; idle = k.idle ∙ h.idle; state = k.state ∙ h.state; started = k.started ∙ h.started; heard = k.heard ∙ h.heard }

-- only when the peer last consumed anything has changed
pub still_timed : (limits : TimeLimits) (inputs : List Received) (moments : List Moment) (last last_new : TimeLimits) → SameTimes last last_new → Timed limits inputs moments last → Timed limits inputs moments last_new
still_timed limits [] [] last last_new same h = times_then limits last last_new h same
still_timed limits [] (m ∷ moments) last last_new same h = absurd h
still_timed limits (i ∷ inputs) [] last last_new same h = absurd h
still_timed limits (i ∷ inputs) (m ∷ moments) last last_new same h = (h.0, h.1, still_timed m.remaining.value inputs moments last last_new same h.2)

due_as : (input : Received) (a b : TimeLimits) (m : Moment) → SameTimes a b → IsDue input b m → IsDue input a m
due_as (Bytes piece) a b m same h = tt
due_as Close a b m same h = tt
due_as Expiry a b m same h = expired_as a b _ a.started b.started same.artim same.started h
  where
    expired_as : (a b : TimeLimits) (now : ℕ) (x y : Option ℕ) → b.artim ≡ a.artim → y ≡ x → HasExpired b now y → HasExpired a now x
    expired_as a b now x (Some started) e f h = subst (HasExpired a now) f (omega (arith, e, h))
    expired_as a b now x None e f h = absurd h
due_as UserAbort a b m same h = λ unasked. subst (λ (x : Option ℕ). IsSilent m.remaining.value (instant_nanos m.now) x) same.started (h unasked)

hears_as : (input : Received) (a b new : TimeLimits) (now : ℕ) → b.heard ≡ a.heard → Hears input b new now → Hears input a new now
hears_as (Bytes piece) a b new now same h = h
hears_as Close a b new now same h = h ∙ same
hears_as Expiry a b new now same h = h ∙ same
hears_as UserAbort a b new now same h = h ∙ same

follows_as : (input : Received) (a b new : TimeLimits) (now : ℕ) → SameTimes a b → Follows input b new now → Follows input a new now
follows_as input a b new now same h = record {
  artim = h.artim ∙ same.artim;
  idle = h.idle ∙ same.idle;
  stays = λ e. h.stays (e ∙ sym same.state) ∙ same.started;
  anew = λ n. h.anew (λ e. n (e ∙ same.state));
  hears = hears_as input a b new now same.heard h.hears;
  since = h.since;
}

-- an input more, which is due at its moment
timed_one : (limits : TimeLimits) (inputs : List Received) (moments : List Moment) (last : TimeLimits) (input : Received) (moment : Moment) → IsDue input last moment → Follows input last moment.remaining.value (instant_nanos moment.now)
    → Timed limits inputs moments last → Timed limits (inputs ++ input ∷ []) (moments ++ moment ∷ []) moment.remaining.value
timed_one limits [] [] last input moment due follows h = (due_as input limits last moment h due, follows_as input limits last moment.remaining.value _ h follows, same_times moment.remaining.value)
timed_one limits [] (m ∷ moments) last input moment due follows h = absurd h
timed_one limits (i ∷ inputs) [] last input moment due follows h = absurd h
timed_one limits (i ∷ inputs) (m ∷ moments) last input moment due follows h = (h.0, h.1, timed_one m.remaining.value inputs moments last input moment due follows h.2)

-- and leaves these times
pub timed_more : (limits : TimeLimits) (inputs : List Received) (moments : List Moment) (last remaining : TimeLimits) (input : Received) (moment : Moment) → moment.remaining.value ≡ remaining → IsDue input last moment → Follows input last remaining (instant_nanos moment.now)
    → Timed limits inputs moments last → Timed limits (inputs ++ input ∷ []) (moments ++ moment ∷ []) remaining
timed_more limits inputs moments last remaining input moment is due follows h =
    subst (Timed limits (inputs ++ input ∷ []) (moments ++ moment ∷ [])) is (timed_one limits inputs moments last input moment due (subst (λ (w : TimeLimits). Follows input last w (instant_nanos moment.now)) (sym is) follows) h)

-- what follows an input, from what is noted of it
pub follows_state : (input : Received) (old new : TimeLimits) (state : State) (now : ℕ) → (state ≡ old.state → new ≡ old) → new.state ≡ state → (state ≢ old.state → new ≡ record old { state = state; started = started_anew (timer_runs state) now })
    → (new.artim ≡ old.artim) × (new.idle ≡ old.idle) → IsSince new.consumed new.heard → Hears input old new now → Follows input old new now
follows_state input old new state now stays is anew lasting since hears = record {
  artim = lasting.0;
  idle = lasting.1;
  hears = hears;
  since = since;
  stays = λ e. ap (λ (w : TimeLimits). w.started) (stays (sym is ∙ e));
  anew = λ n. subst (λ (s : State). new.started ≡ started_anew (timer_runs s) now) (sym is) (ap (λ (w : TimeLimits). w.started) (anew (λ e. n (is ∙ e))));
}

-- an input that has no bytes is due
pub due_now : (kind : Input) (old remaining : TimeLimits) (moment : Moment) → kind ≢ Piece → moment.remaining.value ≡ remaining → remaining.idle ≡ old.idle → (remaining.heard ≡ old.heard) × (remaining.consumed ≡ old.consumed)
    → (kind ≡ Expired → HasExpired old (instant_nanos moment.now) old.started) → (kind ≡ LocalAbort → moment.is_asked ≡ false → IsSilent old (instant_nanos moment.now) old.started) → IsDue (input_of kind []) old moment
due_now Piece old remaining moment no_piece is idle same expired silent = tt
due_now Closed old remaining moment no_piece is idle same expired silent = tt
due_now Expired old remaining moment no_piece is idle same expired silent = expired refl
due_now LocalAbort old remaining moment no_piece is idle same expired silent = λ unasked. subst (λ (w : TimeLimits). IsSilent w (instant_nanos moment.now) old.started) (sym is) (silent_as old remaining _ old.started idle same.0 same.1 (silent refl unasked))
  where
    silent_as : (old new : TimeLimits) (now : ℕ) (x : Option ℕ) → new.idle ≡ old.idle → new.heard ≡ old.heard → new.consumed ≡ old.consumed → IsSilent old now x → IsSilent new now x
    silent_as old new now (Some started) e f k h = h
    silent_as old new now None e f k h = rw (e, f, k) h

-- nothing was given yet
pub nothing_timed : (limits initial : TimeLimits) (inputs : List Received) (moments : List Moment) → inputs ≡ [] → moments ≡ [] → initial ≡ limits → Timed initial inputs moments limits
nothing_timed limits initial inputs moments e f g = rw (e, f, g) (same_times limits)

-- the peer consumed something
pub only_consumed : (old new : TimeLimits) (consumed : Option ℕ) → new ≡ record old { consumed = consumed } → SameTimes old new
only_consumed old new consumed e = rw e (record { artim = refl; idle = refl; state = refl; started = refl; heard = refl })

-- an input that has no bytes is not heard
pub hears_none : (kind : Input) (old new : TimeLimits) (now : ℕ) → kind ≢ Piece → new.heard ≡ old.heard → Hears (input_of kind []) old new now
hears_none Piece old new now no_piece same = absurd (no_piece refl)
hears_none Closed old new now no_piece same = same
hears_none Expired old new now no_piece same = same
hears_none LocalAbort old new now no_piece same = same

-- a piece was heard, then consumed
pub heard_then : (piece : List ℕ) (old mid new : TimeLimits) (state : State) (now : ℕ) → mid ≡ record old { heard = now; consumed = None }
    → (state ≡ mid.state → new ≡ mid) → new.state ≡ state → (state ≢ mid.state → new ≡ record mid { state = state; started = started_anew (timer_runs state) now }) → (new.artim ≡ mid.artim) × (new.idle ≡ mid.idle) → (new.heard ≡ mid.heard) × (new.consumed ≡ mid.consumed) → IsSince new.consumed new.heard
    → Follows (Bytes piece) old new now
heard_then piece old mid new state now e stays is anew lasting same since =
    let h = follows_state (Bytes piece) mid new state now stays is anew lasting since (same.0 ∙ ap (λ (w : TimeLimits). w.heard) e, same.1 ∙ ap (λ (w : TimeLimits). w.consumed) e) in
    let state_is : mid.state ≡ old.state = ap (λ (w : TimeLimits). w.state) e in
    record {
      artim = h.artim ∙ ap (λ (w : TimeLimits). w.artim) e;
      idle = h.idle ∙ ap (λ (w : TimeLimits). w.idle) e;
      stays = λ k. h.stays (k ∙ sym state_is) ∙ ap (λ (w : TimeLimits). w.started) e;
      anew = λ n. h.anew (λ k. n (k ∙ state_is));
      hears = h.hears;
      since = since;
    }
