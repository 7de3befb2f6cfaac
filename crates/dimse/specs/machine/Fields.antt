-- The unfinished message in the fields of a `Join`, and the results of its private methods.
use Rattle.std.specs.Prelude.{◌≡◌, ℕ, ◌+◌, ◌≤◌, Bool, true, false, List, [], Option, Some, None, Result, Ok, Err, if◌then◌else◌}
use Rattle.dimse.specs.declared.fault.DimseFault.{DimseFault}
use Rattle.dimse.specs.declared.joined.Joined.{Joined}
use Rattle.dimse.specs.declared.joined.Joined.TheVariants.{More, DataDue, Message}
use Rattle.dimse.specs.declared.stage.Stage.{Stage}
use Rattle.dimse.specs.declared.stage.Stage.TheVariants.{Between, Command, Set}
use Rattle.dimse.specs.Command.{CommandRecord}
use Rattle.dimse.specs.Reading.{command_in}
use Rattle.dimse.specs.Messages.{Started, NoMessage, InCommand, InSet}

abbrev pub message_at : Stage → ℕ → List ℕ → Started
message_at Between context command = NoMessage
message_at Command context command = InCommand context command
message_at Set context command = InSet context command []

-- the command set with the rest of its unfinished fragment has at most `room` bytes
abbrev pub HasRoom : ℕ → Stage → ℕ → ℕ → Type 0
HasRoom room stage size remaining = stage ≡ Command → size + remaining ≤ room

-- the result of a whole command set, once it was read
abbrev pub read_as : Result CommandRecord DimseFault → Result (Joined × Option CommandRecord) DimseFault
read_as (Err fault) = Err fault
read_as (Ok c) = if c.with_data then Ok (DataDue, Some c) else Ok (Message, Some c)

-- the result of the end of a fragment, which is the last of its set or not
abbrev pub ended_as : Started → Bool → Result (Joined × Option CommandRecord) DimseFault
ended_as NoMessage last = Ok (More, None)
ended_as (InCommand context command) false = Ok (More, None)
ended_as (InCommand context command) true = read_as (command_in command)
ended_as (InSet context command set) false = Ok (More, None)
ended_as (InSet context command set) true = Ok (Message, None)
