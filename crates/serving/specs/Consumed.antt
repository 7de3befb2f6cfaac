-- The inputs of a connection so far, and their effect.
use Rattle.std.specs.Prelude.{ℕ, List, [], Some, None}
use Rattle.negotiate.specs.Settings.{Settings}
use Rattle.part10.specs.Store.{Store}
use Rattle.pdu.specs.Sent.{Line}
use Rattle.engine.specs.declared.source.Input.{Input}
use Rattle.engine.specs.Devices.{devices}
use Rattle.engine.specs.FrameFields.{Fields}
use Rattle.engine.specs.Inputs.{Supply, inputs_of}
use Rattle.engine.specs.Turns.{ConsumedTurns}
use Rattle.serving.specs.Rooms.{served_rooms}

-- the inputs so far, as the state of a source
abbrev pub supply_of : List (Input × List ℕ) → Supply
supply_of named = record { expected = None; given = Some (inputs_of named) }

-- a wire over which these bytes were sent, and no send failed
abbrev pub unfailed_line : List ℕ → Line
unfailed_line sent = record { sent = Some sent; failures = 0 }

-- the inputs were handled turn by turn, and this is what was sent and filed
pub record HasConsumed (s : Settings) (named : List (Input × List ℕ)) (seen : Fields) (sent : List ℕ) (old new : Store) : Type 0 where
  pub turns : ℕ
  pub consumes : ConsumedTurns served_rooms s turns (supply_of []) (supply_of named) seen (devices (unfailed_line []) old) (devices (unfailed_line sent) new)
