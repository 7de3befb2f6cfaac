-- The devices that are borrowed for a call, and the draft in the filing.
use Rattle.std.specs.Borrow.{MutBor}
use Rattle.pdu.specs.Sent.{Line}
use Rattle.part10.specs.Store.{Store}
use Rattle.engine.specs.Devices as model
use Rattle.engine.specs.Devices.{devices}
use Rattle.engine.specs.declared.devices.Devices.{Devices}
use Rattle.engine.specs.Drafts.{IsThere, Drafts}
use Rattle.engine.specs.StoredData.{drafting_in}
use Rattle.engine.specs.Kept.{Kept}

-- the devices at the start of the call
abbrev pub before : {W F : Type 0} → (W → Line) → (F → Store) → Devices W F → model.Devices
before line store lent = devices (line lent.wire.now) (store lent.filing.now)

-- the devices at its end
abbrev pub after : {W F : Type 0} → (W → Line) → (F → Store) → MutBor W × (MutBor F × Unit {0}) → model.Devices
after line store remaining = devices (line remaining.0.now) (store remaining.1.0.now)

-- if the association has a draft, the filing has one
abbrev pub DraftIsThere : Kept → Store → Type 0
DraftIsThere kept store = IsThere (drafting_in kept.storing) store

-- the draft of the association stays in the filing or is gone, and the filing has no other one
abbrev pub KeepsDraft : Kept → Kept → Store → Store → Type 0
KeepsDraft old new store_old store_new = Drafts (drafting_in old.storing) store_old (drafting_in new.storing) store_new
