-- What the observer of a connection is notified of: what was decided last with each portion that the association
-- accepted, in their order. The portion completes a part of a PDU, or nothing was decided.
use Rattle.std.specs.Prelude.{◌≡◌, ◌≢◌, Bool, false, ℕ, List, [], ◌∷◌}
use Rattle.part10.specs.Store.{Store}
use Rattle.engine.specs.Fields.{decided_in, fields_of, settings_in, state_of}
use Rattle.engine.specs.Held.{is_ended}
use Rattle.engine.specs.Inputs.{Received, Bytes, Close, Expiry, UserAbort, stream_of}
use Rattle.engine.specs.Stands.{Stands}
use Rattle.engine.specs.Timeline.{Happened, entries}
use Rattle.engine.specs.declared.association.Association.{Association}
use Rattle.serving.specs.Rooms.{served_rooms}

-- the pieces among these inputs
abbrev pub pieces_of : List Received → List (List ℕ)
pieces_of [] = []
pieces_of (Bytes piece ∷ inputs) = piece ∷ pieces_of inputs
pieces_of (Close ∷ inputs) = pieces_of inputs
pieces_of (Expiry ∷ inputs) = pieces_of inputs
pieces_of (UserAbort ∷ inputs) = pieces_of inputs

-- this piece continues the timeline, whatever was received before, unless the association had ended
abbrev pub TimelineContinues : {A C V D : ℕ} → Association A C V D → List ℕ → Store → Type 0
TimelineContinues before piece store = (inputs : List Received) (story : List Happened) (failed : Bool)
    → Stands served_rooms (settings_in before) inputs story failed (fields_of before) store
    → is_ended (state_of before) ≡ false → entries (stream_of inputs) (Bytes piece ∷ []) ≢ []

-- the last decision is unchanged, whatever was received before
abbrev pub KeepsDecision : {A C V D : ℕ} → Association A C V D → Association A C V D → Store → Type 0
KeepsDecision before after store = (inputs : List Received) (story : List Happened) (failed : Bool)
    → Stands served_rooms (settings_in before) inputs story failed (fields_of before) store
    → decided_in after ≡ decided_in before
