-- The connections that wait for a slot, in the order of their arrival. This product's own profile.
use Rattle.std.specs.Prelude.{◌≡◌, ◌≢◌, ℕ, ◌≤◌, ◌<◌, ◌⊎◌, List, ◌∷◌, ◌++◌, length, take, get_or, Option, Some, None}
use Rattle.std.specs.List.{AllByRecursion}
use Rattle.admitting.specs.declared.slots.Admission.TheVariants as admission
use Rattle.admitting.specs.declared.queue.Queue.{Queue}
use Rattle.admitting.specs.declared.queue.Waiter.{Waiter}
use Rattle.admitting.specs.Occupants.{Occupants, Admits, slots_of, first_vacancy}

-- the connections in the queue
abbrev pub waiting_in : {T A : Type 0} → Queue T A → List (Waiter T)
waiting_in queue = queue.waiters.items

-- how many connections may wait
abbrev pub most_in : {T A : Type 0} → Queue T A → ℕ
most_in queue = queue.most

-- this peer gets no slot: none is free, or it has as many as one peer may have
abbrev pub GetsNone : Occupants → ℕ → Type 0
GetsNone occupants peer = (first_vacancy 0 occupants.peers ≡ None) ⊎ (occupants.per_peer ≤ slots_of peer occupants.peers)

-- none of these peers gets a slot
abbrev pub AllGetNone : {T : Type 0} → Occupants → List (Waiter T) → Type 0
AllGetNone occupants waiters = AllByRecursion (λ w. GetsNone occupants w.peer) waiters

-- a connection in the queue gets a slot, and the peers of those before it get none; the others stay, in their order
pub record GetsSlot {T : Type 0} (old new : List (Waiter T)) (occupants occupants_new : Occupants) (waiter : Waiter T) (slot : ℕ) : Type 0 where
  pub before : List (Waiter T)
  pub after : List (Waiter T)
  pub was : old ≡ before ++ waiter ∷ after
  pub is : new ≡ before ++ after
  pub passed : AllGetNone occupants before
  pub admits : Admits waiter.peer occupants occupants_new (admission.Slot slot)

-- the first connection whose peer can get a slot has got one; or no peer can, and nothing has changed
abbrev pub AdmitsFirst : {T : Type 0} → List (Waiter T) → List (Waiter T) → Occupants → Occupants → Option (Waiter T × ℕ) → Type 0
AdmitsFirst old new occupants occupants_new (Some (waiter, slot)) = GetsSlot old new occupants occupants_new waiter slot
AdmitsFirst old new occupants occupants_new None = (new ≡ old) × (occupants_new ≡ occupants) × AllGetNone occupants old

-- the index of the first connection whose peer gets a slot, and that slot, which is now the connection's
abbrev pub FindsFirst : {T : Type 0} → List (Waiter T) → Occupants → Occupants → Option (ℕ × ℕ) → Type 0
FindsFirst waiting occupants occupants_new (Some (at, slot)) = (at < length waiting) × AllGetNone occupants (take at waiting)
    × ((d : Waiter _) → Admits (get_or waiting at d).peer occupants occupants_new (admission.Slot slot))
FindsFirst waiting occupants occupants_new None = (occupants_new ≡ occupants) × AllGetNone occupants waiting

-- none of these connections has this number
abbrev pub AllHaveOthers : {T : Type 0} → ℕ → List (Waiter T) → Type 0
AllHaveOthers number waiters = AllByRecursion (λ w. w.number ≢ number) waiters

-- the first connection with this number is removed; the others stay, in their order
pub record HasRemaining {T : Type 0} (number : ℕ) (old new : List (Waiter T)) : Type 0 where
  pub before : List (Waiter T)
  pub after : List (Waiter T)
  pub gone : Waiter T
  pub was : old ≡ before ++ gone ∷ after
  pub is : new ≡ before ++ after
  pub passed : AllHaveOthers number before
  pub named : gone.number ≡ number

-- the index of the first connection with this number
abbrev pub FindsNumber : {T : Type 0} → ℕ → List (Waiter T) → Option ℕ → Type 0
FindsNumber number waiting (Some at) = (at < length waiting) × AllHaveOthers number (take at waiting) × ((d : Waiter _) → (get_or waiting at d).number ≡ number)
FindsNumber number waiting None = AllHaveOthers number waiting
