-- What a `Command` keeps, as the contents of its request.
use Rattle.std.specs.Prelude.{ℕ, true, false, List, Some, None}
use Rattle.dimse.specs.declared.operation.Operation.{Operation}
use Rattle.dimse.specs.declared.operation.Operation.TheVariants.{Echo, Store}
use Rattle.dimse.specs.Command.{CommandRecord, c_echo, c_store}

-- the request for this operation, with these SOP class and message ID
abbrev pub request_for : List ℕ → ℕ → Operation → CommandRecord
request_for class message Echo = record { class = class; field = c_echo; message = message; with_data = false; instance = None }
request_for class message (Store instance) = record { class = class; field = c_store; message = message; with_data = true; instance = Some instance }
