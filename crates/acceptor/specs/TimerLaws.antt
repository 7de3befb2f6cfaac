-- The states before and after some events determine whether the ARTIM timer was started in them (PS3.8 sections 9.1.5
-- and 9.2.3, Table 9-10).
use Rattle.std.specs.Prelude.{◌≡◌, ◌≢◌, ◌↔◌, ◌||◌, Bool, true, false, List, [], ◌∷◌}
use Rattle.std.specs.List.{AllByRecursion}
use Rattle.acceptor.specs.declared.state.State.{State}
use Rattle.acceptor.specs.declared.event.Event.{Event}
use Rattle.acceptor.specs.declared.event.Event.TheVariants.{Connected}
use Rattle.acceptor.specs.declared.effect.Timer.{Timer}
use Rattle.acceptor.specs.declared.effect.Timer.TheVariants.{Starts, Stops, Continues}
use Rattle.acceptor.specs.Effect.{timer, timer_runs}
use Rattle.acceptor.specs.Table.{table}

-- the state after these events
abbrev pub state_after : State → List Event → State
state_after state [] = state
state_after state (event ∷ events) = state_after (table state event).1 events

abbrev pub is_start : Timer → Bool
is_start Starts = true
is_start Stops = false
is_start Continues = false

-- whether the ARTIM timer is started by one of these events
abbrev pub has_start : State → List Event → Bool
has_start state [] = false
has_start state (event ∷ events) = is_start (timer (table state event).0 (table state event).1) || has_start (table state event).1 events

-- the events belong to one transport connection: none of them opens another
abbrev pub BelongTogether : List Event → Type 0
BelongTogether events = AllByRecursion (λ event. event ≢ Connected) events

-- an action starts the ARTIM timer exactly if it leads to another state, in which the timer runs
abbrev pub AStartIsAnEntry : Type 0
AStartIsAnEntry = (state : State) (event : Event) → (timer (table state event).0 (table state event).1 ≡ Starts) ↔ (((table state event).1 ≢ state) × (timer_runs (table state event).1 ≡ true))

-- if the ARTIM timer runs after events of one connection, they started it exactly if the state changed
abbrev pub StartsAreSeen : Type 0
StartsAreSeen = (state : State) (events : List Event) → BelongTogether events → timer_runs (state_after state events) ≡ true → (has_start state events ≡ true) ↔ (state_after state events ≢ state)
