-- The effect of sending an answer: it is sent, or the send fails after a part of it and the association ends (PS3.8
-- section 9.2.2: as if the transport connection had been closed).
use Rattle.std.specs.Prelude.{◌≡◌, ℕ, Bool, true, false, List, [], Option, Result, Ok, Err, nat_eq, if◌then◌else◌}
use Rattle.acceptor.specs.declared.state.State.{State}
use Rattle.acceptor.specs.declared.state.State.TheVariants.{Sta1, Sta13}
use Rattle.acceptor.specs.declared.event.Event.{Event}
use Rattle.acceptor.specs.declared.event.Event.TheVariants.{AcceptableRq, UnacceptableRq, UserRefuses}
use Rattle.acceptor.specs.Table.{table}
use Rattle.acceptor.specs.Effect.{sending, bytes_sent}
use Rattle.pdu.specs.declared.wire.WireFailed.{WireFailed}
use Rattle.pdu.specs.Texts.{release_text, abort_text}
use Rattle.negotiate.specs.Rejections.{service_provider_acse}
use Rattle.part10.specs.Store.{Store}
use Rattle.engine.specs.Devices.{Devices, files_in, line_after, IsFront}
use Rattle.engine.specs.StoredData.{Nothing}
use Rattle.dimse.specs.Messages.{NoMessage}
use Rattle.dimse.specs.Joining.{ShowsMessage}
use Rattle.engine.specs.Progress.{Progress, Advance}
use Rattle.engine.specs.Run.{cut}
use Rattle.engine.specs.Kept.{Kept, Pends, IsUnagreed}

-- the filing has the same files and the same number of failed calls as before
pub record Unfiled (old new : Store) : Type 0 where
  pub files : files_in new ≡ files_in old
  pub count : new.failures ≡ old.failures

-- the effect g in the state p was performed: its bytes were sent, or the send failed after some of them (`wire`), and
-- the fields are those of the state afterwards
pub record PerformsReaction (p : Progress) (g : Advance) (new : Kept) (body started : List ℕ) (devices_old devices_new : Devices) : Type 0 where
  pub wire : Option ℕ
  pub fair : IsFront wire g.sent
  pub pends : Pends new devices_new.store (cut wire p g).next body started
  pub line : devices_new.line ≡ line_after wire g.sent devices_old.line
  pub unfiled : Unfiled devices_old.store devices_new.store

-- ---- one event

-- the bytes that the event's action sends, with this answer to a request
abbrev pub step_text : State → Event → ℕ → List ℕ → List ℕ
step_text state event reason answer =
    let step = table state event in bytes_sent answer release_text abort_text (sending step.0 step.1 reason)

abbrev pub state_after : Result (Unit {0}) WireFailed → State → State
state_after (Ok u) state = state
state_after (Err f) state = Sta1

-- in this state there is no association, or no longer, and nothing is held of it
abbrev pub is_remaining : State → Bool
is_remaining Sta1 = true
is_remaining Sta13 = true
is_remaining state = false

pub record IsRemaining (kept : Kept) : Type 0 where
  pub unagreed : IsUnagreed kept.caller kept.peer_max kept.table
  pub body : kept.body ≡ []
  pub join : ShowsMessage kept.room kept.join NoMessage []
  pub storing : kept.storing ≡ Nothing

abbrev pub with_state : State → Kept → Kept
with_state state kept = record kept { state = state }

-- after a send with this result the association is in the given state, or in Sta1 if the send failed; nothing else
-- has changed, unless that state holds nothing of an association
pub record Reaches (state : State) (sent : Result (Unit {0}) WireFailed) (old new : Kept) (store_old store_new : Store) : Type 0 where
  pub state_is : new.state ≡ state_after sent state
  pub refused : new.refused ≡ old.refused
  pub decided : new.decided ≡ old.decided
  pub remaining : is_remaining new.state ≡ true → IsRemaining new
  pub same : is_remaining new.state ≡ false → new ≡ with_state new.state old
  pub store_same : is_remaining new.state ≡ false → store_new ≡ store_old
  pub unfiled : Unfiled store_old store_new

-- the event ends the association or keeps the state
abbrev pub Stays : State → Event → Type 0
Stays state event = is_remaining (table state event).1 ≡ false → (table state event).1 ≡ state

-- ---- the rejection of a request, by its source

abbrev pub rejected_state : State → ℕ → State
rejected_state state source =
    if nat_eq source service_provider_acse then (table state UnacceptableRq).1 else (table (table state AcceptableRq).1 UserRefuses).1

abbrev pub rejected_text : State → ℕ → List ℕ → List ℕ
rejected_text state source answer =
    if nat_eq source service_provider_acse then step_text state UnacceptableRq 0 answer else step_text (table state AcceptableRq).1 UserRefuses 0 answer
