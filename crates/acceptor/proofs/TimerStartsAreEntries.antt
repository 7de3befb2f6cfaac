-- Each event leaves the state as it is and starts no timer, or leads into a later state, where it starts the timer if
-- it runs there (`entry`); two looks at the state show each start (`seen`). Stands on the definitions alone.
use Rattle.std.proofs.Common.{◌≡◌, ◌≢◌, ◌⊎◌, inl, inr, ◌↔◌, ℕ, ◌<◌, ◌≤◌, Bool, true, false, ◌||◌, List, [], ◌∷◌, refl, sym, ap, subst, ◌∙◌, arith}
use Rattle.acceptor.specs.declared.state.State.{State}
use Rattle.acceptor.specs.declared.state.State.TheVariants.{Sta1, Sta2, Sta3, Sta6, Sta8, Sta13}
use Rattle.acceptor.specs.declared.event.Event.{Event}
use Rattle.acceptor.specs.declared.event.Event.TheVariants.{Connected, AcceptableRq, UnacceptableRq, Ac, Rj, Data, ReleaseRq, ReleaseRp, Abort, Invalid, Closed, Expired, UserAccepts, UserRefuses, UserReleases, UserAborts}
use Rattle.acceptor.specs.declared.effect.Timer.{Timer}
use Rattle.acceptor.specs.declared.effect.Timer.TheVariants.{Starts, Stops, Continues}
use Rattle.acceptor.specs.Effect.{timer, timer_runs}
use Rattle.acceptor.specs.Table.{table}
use Rattle.acceptor.specs.TimerLaws.{state_after, is_start, BelongTogether, AStartIsAnEntry, StartsAreSeen}

-- the order in which the states of a connection come
abbrev rank : State → ℕ
rank Sta2 = 0
rank Sta3 = 1
rank Sta6 = 2
rank Sta8 = 3
rank Sta13 = 4
rank Sta1 = 5

-- a move that starts the timer or not: none, or one to a later state
abbrev Step : State → State → (starts : Bool) → Type 0
Step a b starts = ((b ≡ a) × (starts ≡ false)) ⊎ ((rank a < rank b) × (starts ≡ timer_runs b))

step : (state : State) (event : Event) → event ≢ Connected → Step state (table state event).1 (is_start (timer (table state event).0 (table state event).1))
step Sta1 Connected n = absurd (n refl)
step Sta2 AcceptableRq n = inr (omega arith, refl)
step Sta2 UnacceptableRq n = inr (omega arith, refl)
step Sta2 Ac n = inr (omega arith, refl)
step Sta2 Rj n = inr (omega arith, refl)
step Sta2 Data n = inr (omega arith, refl)
step Sta2 ReleaseRq n = inr (omega arith, refl)
step Sta2 ReleaseRp n = inr (omega arith, refl)
step Sta2 Invalid n = inr (omega arith, refl)
step Sta2 Abort n = inr (omega arith, refl)
step Sta2 Expired n = inr (omega arith, refl)
step Sta2 Closed n = inr (omega arith, refl)
step Sta3 UserAccepts n = inr (omega arith, refl)
step Sta3 UserRefuses n = inr (omega arith, refl)
step Sta6 ReleaseRq n = inr (omega arith, refl)
step Sta6 AcceptableRq n = inr (omega arith, refl)
step Sta6 UnacceptableRq n = inr (omega arith, refl)
step Sta6 Ac n = inr (omega arith, refl)
step Sta6 Rj n = inr (omega arith, refl)
step Sta6 ReleaseRp n = inr (omega arith, refl)
step Sta6 Invalid n = inr (omega arith, refl)
step Sta6 Abort n = inr (omega arith, refl)
step Sta6 Closed n = inr (omega arith, refl)
step Sta6 UserAborts n = inr (omega arith, refl)
step Sta8 UserReleases n = inr (omega arith, refl)
step Sta13 Abort n = inr (omega arith, refl)
step Sta13 Expired n = inr (omega arith, refl)
step Sta13 Closed n = inr (omega arith, refl)
step state event n = inl (refl, refl)

-- ---- one event

starts_is : (t : Timer) → is_start t ≡ true → t ≡ Starts
starts_is Starts h = refl
starts_is Stops h = absurd cc
starts_is Continues h = absurd cc

no_start : (t : Timer) → is_start t ≡ false → t ≢ Starts
no_start t h e = let x : true ≡ false = ap is_start (sym e) ∙ h in absurd cc

another : (a b : State) → rank a < rank b → b ≢ a
another a b less e = let same : rank b ≡ rank a = ap rank e in absurd (omega (arith, less, same))

entry_by : (a b : State) (t : Timer) → Step a b (is_start t) → (t ≡ Starts) ↔ ((b ≢ a) × (timer_runs b ≡ true))
entry_by a b t (inl (same, none)) = (λ e. absurd (no_start t none e), λ h. absurd (h.0 same))
entry_by a b t (inr (less, is)) = (λ e. (another a b less, sym is ∙ ap is_start e), λ h. starts_is t (is ∙ h.1))

pub entry : AStartIsAnEntry
entry Sta1 Connected = (λ e. (λ (same : Sta2 ≡ Sta1). absurd cc, refl), λ h. refl)
entry Sta2 Connected = entry_by Sta2 Sta2 Continues (inl (refl, refl))
entry Sta3 Connected = entry_by Sta3 Sta3 Continues (inl (refl, refl))
entry Sta6 Connected = entry_by Sta6 Sta6 Continues (inl (refl, refl))
entry Sta8 Connected = entry_by Sta8 Sta8 Continues (inl (refl, refl))
entry Sta13 Connected = entry_by Sta13 Sta13 Continues (inl (refl, refl))
entry state event = entry_by _ _ _ (step state event (λ e. absurd cc))

-- ---- several events

later_by : (a b c : State) (starts : Bool) → Step a b starts → rank b ≤ rank c → rank a ≤ rank c
later_by a b c starts (inl (same, none)) more = subst (λ (x : State). rank x ≤ rank c) same more
later_by a b c starts (inr (less, is)) more = omega (arith, less, more)

later : (state : State) (events : List Event) → BelongTogether events → rank state ≤ rank (state_after state events)
later state [] h = omega arith
later state (event ∷ events) h = later_by _ _ _ _ (step state event h.0) (later (table state event).1 events h.1)

-- a move and what comes after it
seen_by : (a b c : State) (starts more : Bool) → Step a b starts → rank b ≤ rank c → timer_runs c ≡ true → (more ≡ true) ↔ (c ≢ b) → (starts || more ≡ true) ↔ (c ≢ a)
seen_by a b c true more (inl (same, none)) up runs h = absurd cc
seen_by a b c false more (inl (same, none)) up runs h = subst (λ (x : State). (more ≡ true) ↔ (c ≢ x)) same h
seen_by a b c true more (inr (less, is)) up runs h = (λ e. another a c (omega (arith, less, up)), λ n. refl)
seen_by a b c false true (inr (less, is)) up runs h = (λ e. another a c (omega (arith, less, up)), λ n. refl)
seen_by a b c false false (inr (less, is)) up runs h =
    let other : c ≢ b = λ e. let x : true ≡ false = sym runs ∙ (ap timer_runs e ∙ sym is) in absurd cc in
    let x : false ≡ true = h.1 other in absurd cc

pub seen : StartsAreSeen
seen state [] h runs = (λ e. absurd cc, λ n. absurd (n refl))
seen state (event ∷ events) h runs =
    seen_by _ _ _ _ _ (step state event h.0) (later (table state event).1 events h.1) runs (seen (table state event).1 events h.1 runs)
