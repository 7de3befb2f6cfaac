-- The history of the connections of a server.
use Rattle.std.specs.Prelude.{◌≡◌, ◌≢◌, ◌≤◌, ◌-◌, ◌⊎◌, Bool, List, [], length, map, take, true, false}
use Rattle.std.specs.List.{All, AllZip}
use Rattle.negotiate.specs.Settings.{Settings, settings_of}
use Rattle.part10.specs.Store.{Store}
use Rattle.serving.specs.Causes.{IsCaused}
use Rattle.serving.specs.Served.{IsServed}
use Rattle.serving.specs.Settled.{SettlesFirst, sent_by}
use Rattle.serving.specs.Timed.{GivenInTime, asked_at}
use Rattle.serving.specs.TimeLimits.{had_reasons, opened_at}
use Rattle.serving.specs.declared.open_connection.ConnectionEnd.{ConnectionEnd}
use Rattle.server.specs.Configuration.{Configuration, with_settings}
use Rattle.server.specs.declared.socket.Socket.{Socket}
use Rattle.server.specs.declared.server.opening.history.ServerHistory.{ServerHistory}
use Rattle.server.specs.declared.server.opening.history.SlotHistory.{SlotHistory}

-- the filing over which a connection was opened, as it was then
abbrev pub opened_over : {S F : Type 0} → ConnectionEnd S F → F
opened_over e = e.opened.value

-- A connection kept the promise with these settings, and when bytes were last written to its socket, its filing had the
-- files of the inputs until then, and did not wait. Its times began when it was opened, and each of its inputs occurred
-- when it was due. An abort was requested at most once, and for a reason.
pub record ClosedBy {S F : Type 0} (store : F → Store) (has_pending : F → Bool) (t : Configuration) (e : ConnectionEnd S F) : Type 0 where
  pub served : ∥ IsServed t.settings e.exchange (store e.opened.value) (store e.filing) ∥₁
  pub sent : ∥ SettlesFirst t.settings e.exchange (store e.opened.value) (store e.settled.value) (store e.filing) ∥₁
  pub rested : sent_by e.exchange ≢ [] → has_pending e.settled.value ≡ false
  pub initial : e.initial.value ≡ opened_at t.artim t.idle t.longest e.initial.value.opened
  pub in_time : ∥ GivenInTime t.settings e.exchange (store e.opened.value) (store e.filing) e.initial.value e.moments ∥₁
  pub once : length (asked_at e.moments) ≤ 1
  pub reasons : had_reasons e.is_stopped t.longest e.initial.value.opened (asked_at e.moments) ≡ true

-- the filings over which connections were opened in a slot, one after the other
abbrev pub opened_in : {F : Type 0} → SlotHistory F → List F
opened_in slot = slot.opened

-- the ends of the connections that have ended in a slot, one after the other
abbrev pub ended_in : {F : Type 0} → SlotHistory F → List (ConnectionEnd Socket F)
ended_in slot = slot.ended

-- the settings of the associations of these connections, as they were recorded
abbrev pub settings_in : {F : Type 0} → SlotHistory F → List Settings
settings_in slot = map settings_of slot.configs

-- the connections that have ended in a slot kept the promise, each with the settings of its own association
abbrev pub EachClosed : {F : Type 0} → (F → Store) → (F → Bool) → Configuration → SlotHistory F → Type 0
EachClosed store has_pending t slot = AllZip (λ s e. ClosedBy store has_pending (with_settings t s) e) (settings_in slot) (ended_in slot)

-- all of these but the last
abbrev pub AllButLast : {A : Type 0} → (A → Type 0) → List A → Type 0
AllButLast P xs = All P (take (length xs - 1) xs)

-- each connection that was opened in a slot of a server has ended, once and in the order in which they were opened, and
-- kept the promise with the settings of its association, which are allowed, and with these for the rest; and each was
-- closed for a cause, but for the last, which the end of its server may have closed
pub record AllEnded {F : Type 0} (store : F → Store) (has_pending : F → Bool) (allows : Settings → Type 0) (t : Configuration) (slot : SlotHistory F) : Type 0 where
  pub none_missing : opened_in slot ≡ map opened_over (ended_in slot)
  pub closed : ∥ EachClosed store has_pending t slot ∥₁
  pub allowed : ∥ All allows (settings_in slot) ∥₁
  pub caused : ∥ AllButLast (λ e. IsCaused e) (ended_in slot) ∥₁

-- settings are the first of a server, or of those that follow
abbrev pub IsFirstOr : Settings → (Settings → Type 0) → Settings → Type 0
IsFirstOr first follows s = (s ≡ first) ⊎ follows s

-- the slots of a server
abbrev pub slots_in : {F : Type 0} → ServerHistory F → List (SlotHistory F)
slots_in history = history.slots
