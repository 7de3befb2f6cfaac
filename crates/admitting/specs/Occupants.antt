-- The slots of a server, one for each connection that can be served at a time: each is free or belongs to a peer.
-- This product's own profile.
use Rattle.std.specs.Prelude.{◌≡◌, ℕ, suc, ◌<◌, ◌≤◌, Bool, List, [], ◌∷◌, Option, Some, None, nat_eq, if◌then◌else◌, set}
use Rattle.admitting.specs.declared.slots.Admission.{Admission}
use Rattle.admitting.specs.declared.slots.Admission.TheVariants as admission

-- the peer of each slot, and how many slots one peer may have
pub record Occupants : Type 0 where
  pub peers : List (Option ℕ)
  pub per_peer : ℕ

-- the peers of these slots without those whose place has no connection, by whether each place has one
abbrev pub without_vacant : List Bool → List (Option ℕ) → List (Option ℕ)
without_vacant [] peers = peers
without_vacant (is_occupied ∷ places) [] = []
without_vacant (is_occupied ∷ places) (peer ∷ peers) = (if is_occupied then peer else None) ∷ without_vacant places peers

-- the slots after those whose place has no connection were freed
abbrev pub after_freeing : List Bool → Occupants → Occupants
after_freeing places occupants = record occupants { peers = without_vacant places occupants.peers }

-- how many slots this peer has
abbrev pub slots_of : ℕ → List (Option ℕ) → ℕ
slots_of peer [] = 0
slots_of peer (None ∷ more) = slots_of peer more
slots_of peer (Some other ∷ more) = if nat_eq peer other then suc (slots_of peer more) else slots_of peer more

-- the index of the first free slot, counted from this number on
abbrev pub first_vacancy : ℕ → List (Option ℕ) → Option ℕ
first_vacancy slot [] = None
first_vacancy slot (None ∷ more) = Some slot
first_vacancy slot (Some _ ∷ more) = first_vacancy (suc slot) more

-- the slot for a connection of this peer: the first free one, unless the peer has as many as it may have
abbrev pub Admits : ℕ → Occupants → Occupants → Admission → Type 0
Admits peer old new (admission.Slot slot) =
    (first_vacancy 0 old.peers ≡ Some slot) × (slots_of peer old.peers < old.per_peer) × (new.peers ≡ set old.peers slot (Some peer))
Admits peer old new admission.Full = (first_vacancy 0 old.peers ≡ None) × (new.peers ≡ old.peers)
Admits peer old new admission.PeerFull = (old.per_peer ≤ slots_of peer old.peers) × (new.peers ≡ old.peers)
