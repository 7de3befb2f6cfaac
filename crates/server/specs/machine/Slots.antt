-- How the history of a slot changes.
use Rattle.std.specs.Prelude.{◌≡◌, Bool, List, [], ◌∷◌, ◌++◌, map, Option, Some, None}
use Rattle.std.specs.List.{All}
use Rattle.part10.specs.Store.{Store}
use Rattle.server.specs.declared.server.opening.history.SlotHistory.{SlotHistory}
use Rattle.negotiate.specs.Settings.{Settings}
use Rattle.server.specs.Configuration.{Configuration}
use Rattle.serving.specs.Causes.{IsCaused}
use Rattle.server.specs.Histories.{AllButLast, EachClosed, ended_in, opened_in, opened_over, settings_in}

-- what is seen of the connection in a slot, if there is one
abbrev pub seen_of : {T F : Type 0} → Option T → (T → F) → List F
seen_of None see = []
seen_of (Some connection) see = see connection ∷ []

-- the connections that were opened over these filings have ended, and kept the promise with these settings, and for a
-- cause where they were to be closed
pub record HaveEnded {F : Type 0} (store : F → Store) (has_pending : F → Bool) (allows : Settings → Type 0) (t : Configuration) (due : Type 0) (openings : List F) (old new : SlotHistory F) : Type 0 where
  pub opened : opened_in new ≡ opened_in old
  pub ended : map opened_over (ended_in new) ≡ map opened_over (ended_in old) ++ openings
  pub closed : ∥ EachClosed store has_pending t old ∥₁ → ∥ EachClosed store has_pending t new ∥₁
  pub allowed : ∥ All allows (settings_in old) ∥₁ → ∥ All allows (settings_in new) ∥₁
  pub caused : due → ∥ All (λ e. IsCaused e) (ended_in old) ∥₁ → ∥ All (λ e. IsCaused e) (ended_in new) ∥₁
  pub but_last : ∥ All (λ e. IsCaused e) (ended_in old) ∥₁ → ∥ AllButLast (λ e. IsCaused e) (ended_in new) ∥₁
