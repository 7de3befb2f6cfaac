-- What an association does with one more input, and what it holds: relations of an association, whatever was received
-- before.
use Rattle.std.specs.Prelude.{◌≡◌, ℕ, Bool, false, List}
use Rattle.acceptor.specs.declared.state.State.TheVariants.{Sta1}
use Rattle.part10.specs.Store.{Store}
use Rattle.dimse.specs.Joining.{command_bytes}
use Rattle.engine.specs.declared.association.Association.{Association}
use Rattle.decisions.specs.declared.decision.Decision.{Decision}
use Rattle.engine.specs.Devices.{Devices}
use Rattle.engine.specs.Fields.{fields_of, settings_in, state_of}
use Rattle.engine.specs.Held.{Held, is_ended}
use Rattle.engine.specs.Inputs.{Received, Supply}
use Rattle.engine.specs.Timeline.{Happened}
use Rattle.engine.specs.Run.{rooms_of}
use Rattle.engine.specs.Moves.{Moved, StaysEnded}
use Rattle.engine.specs.OutputLaws.{SendsFew}
use Rattle.engine.specs.Parts.{DecidesNothingBefore, CompletesPart}
use Rattle.engine.specs.Reached.{reached, message_so_far}
use Rattle.engine.specs.Stands.{Stands}
use Rattle.engine.specs.Turns.{ConsumedInput}

-- the input has moved the association and its devices on
abbrev pub MovesOn : {A C V D : ℕ} → Association A C V D → Association A C V D → Received → Devices → Devices → Type 0
MovesOn {A} {C} {V} {D} before after input old new = (inputs : List Received) (story : List Happened) (failed : Bool)
    → Stands (rooms_of A C V D) (settings_in before) inputs story failed (fields_of before) old.store
    → Moved (rooms_of A C V D) (settings_in before) inputs story failed input (fields_of before) (fields_of after) old new

-- if the association had ended, it and its devices are unchanged
abbrev pub StaysOnceEnded : {A C V D : ℕ} → Association A C V D → Association A C V D → Devices → Devices → Type 0
StaysOnceEnded before after old new = state_of before ≡ Sta1 → StaysEnded (fields_of before) (fields_of after) old new

-- so many of the received bytes are held
abbrev pub HoldsBytes : {A C V D : ℕ} → Association A C V D → ℕ → Type 0
HoldsBytes {A} {C} {V} {D} seen n = (inputs : List Received) (story : List Happened) (failed : Bool) (store : Store)
    → Stands (rooms_of A C V D) (settings_in seen) inputs story failed (fields_of seen) store
    → Held (rooms_of A C V D) (settings_in seen) (reached (rooms_of A C V D) (settings_in seen) inputs story failed) n

-- this was decided last
abbrev pub HasDecided : {A C V D : ℕ} → Association A C V D → Decision → Type 0
HasDecided {A} {C} {V} {D} seen decision = (inputs : List Received) (story : List Happened) (failed : Bool) (store : Store)
    → Stands (rooms_of A C V D) (settings_in seen) inputs story failed (fields_of seen) store
    → decision ≡ (reached (rooms_of A C V D) (settings_in seen) inputs story failed).progress.decided

-- the command set of the unfinished message has these bytes, so far
abbrev pub HasCommand : {A C V D : ℕ} → Association A C V D → List ℕ → Type 0
HasCommand {A} {C} {V} {D} seen bytes = (inputs : List Received) (story : List Happened) (failed : Bool) (store : Store)
    → Stands (rooms_of A C V D) (settings_in seen) inputs story failed (fields_of seen) store
    → bytes ≡ command_bytes (message_so_far (reached (rooms_of A C V D) (settings_in seen) inputs story failed))

-- few bytes are sent for a piece of at most so many bytes
abbrev pub HasInputLimit : {A C V D : ℕ} → Association A C V D → ℕ → Type 0
HasInputLimit {A} {C} {V} {D} seen most = (inputs : List Received) (story : List Happened) (failed : Bool) (store : Store)
    → Stands (rooms_of A C V D) (settings_in seen) inputs story failed (fields_of seen) store
    → SendsFew (rooms_of A C V D) (settings_in seen) inputs story most

-- a piece of fewer bytes decides nothing, and one of so many completes a part of a PDU, unless the association has
-- ended
abbrev pub EndsWithPart : {A C V D : ℕ} → Association A C V D → ℕ → Type 0
EndsWithPart {A} {C} {V} {D} seen most = (inputs : List Received) (story : List Happened) (failed : Bool) (store : Store)
    → Stands (rooms_of A C V D) (settings_in seen) inputs story failed (fields_of seen) store
    → DecidesNothingBefore (rooms_of A C V D) (settings_in seen) inputs story most × (is_ended (state_of seen) ≡ false → CompletesPart inputs most)

-- the source returned an input, which moved the association on
abbrev pub ConsumesNext : {A C V D : ℕ} → Association A C V D → Association A C V D → Supply → Supply → Devices → Devices → Type 0
ConsumesNext {A} {C} {V} {D} before after given_old given_new old new =
    ConsumedInput (rooms_of A C V D) (settings_in before) given_old given_new (fields_of before) (fields_of after) old new
