-- The data of an association, by its phase.
use Rattle.std.specs.Prelude.{ℕ, ◌+◌, ◌*◌, List, [], replicate}
use Rattle.arrayvec.specs.ArrayVec.{array_vec_len}
use Rattle.acceptor.specs.declared.state.State.{State}
use Rattle.acceptor.specs.declared.state.State.TheVariants.{Sta1, Sta2, Sta6, Sta13}
use Rattle.pdu.specs.Sizes.{title_size}
use Rattle.negotiate.specs.declared.table.ContextRow.{ContextRow}
use Rattle.dimse.specs.Messages.{NoMessage}
use Rattle.dimse.specs.Joining.{Joining, shown}
use Rattle.engine.specs.declared.phase.Phase.{Phase}
use Rattle.engine.specs.declared.phase.Phase.TheVariants.{AwaitingRequest, Established, AwaitingClose, Ended}
use Rattle.engine.specs.Run.{heads_size}
use Rattle.engine.specs.Held.{peer_size, row_size}
use Rattle.engine.specs.StoredData.{Stored, Nothing, stored_of}

-- the acceptor's state
abbrev pub state_in : {A C V D : ℕ} → Phase A C V D → State
state_in (AwaitingRequest body) = Sta2
state_in (Established peer message) = Sta6
state_in AwaitingClose = Sta13
state_in Ended = Sta1

-- the calling AE title of an accepted request; its maximum length and its accepted presentation contexts follow
abbrev pub caller_in : {A C V D : ℕ} → Phase A C V D → List ℕ
caller_in (Established peer message) = peer.caller
caller_in phase = replicate title_size 0

abbrev pub maximum_in : {A C V D : ℕ} → Phase A C V D → ℕ
maximum_in (Established peer message) = peer.max_length
maximum_in phase = 0

abbrev pub rows_in : {A C V D : ℕ} → Phase A C V D → List ContextRow
rows_in (Established peer message) = peer.contexts.items
rows_in phase = []

-- the received bytes of the body of a request
abbrev pub request_in : {A C V D : ℕ} → Phase A C V D → List ℕ
request_in (AwaitingRequest body) = body.items
request_in phase = []

-- the state of the join of a message; that of its data set follows
abbrev pub joining_in : {A C V D : ℕ} → Phase A C V D → Joining
joining_in (Established peer message) = message.join
joining_in phase = shown NoMessage []

abbrev pub stored_in : {A C V D : ℕ} → Phase A C V D → Stored
stored_in (Established peer message) = stored_of message.storing
stored_in phase = Nothing

-- how many bytes the body of a request uses of its limit, with 12 for the heads of a PDU and a presentation data value
abbrev pub consumed_in : {A C V D : ℕ} → Phase A C V D → ℕ
consumed_in (AwaitingRequest body) = array_vec_len body + heads_size
consumed_in (Established peer message) = heads_size + peer_size + row_size * array_vec_len peer.contexts
consumed_in phase = 0
