-- A run turn by turn: the state between two turns, and the effect of one turn. A turn reads one input of the source and
-- handles it.
use Rattle.std.specs.Prelude.{◌≡◌, ℕ, ◌+◌, ◌*◌, ◌≤◌, Bool, false, List, length, Option, Some, None}
use Rattle.acceptor.specs.declared.state.State.TheVariants.{Sta6}
use Rattle.sequence.specs.Wanted.{level_size}
use Rattle.negotiate.specs.Settings.{Settings}
use Rattle.part10.specs.Store.{Store}
use Rattle.engine.specs.Devices.{Devices}
use Rattle.engine.specs.declared.source.Input.{Input}
use Rattle.engine.specs.declared.report.Report.{Report}
use Rattle.engine.specs.Held.{Held, accepted_most}
use Rattle.engine.specs.Reached.{reached}
use Rattle.engine.specs.Inputs.{Received, Supply, Gives, first_inputs, input_of, with_given}
use Rattle.engine.specs.Moves.{Moved}
use Rattle.engine.specs.Gains.{Gains}
use Rattle.engine.specs.Progress.{at_start}
use Rattle.engine.specs.Ran.{inputs_after, EndsLast, standing_of}
use Rattle.engine.specs.Run.{Rooms}
use Rattle.engine.specs.Stands.{Stands}
use Rattle.engine.specs.FrameFields.{Fields}
use Rattle.engine.specs.Timeline.{Happened}

-- if the remaining inputs are known, the source has returned these of them, and the others remain
abbrev pub ConsumesFront : Option (List Received) → Option (List Received) → List Received → Type 0
ConsumesFront None now consumed = now ≡ None
ConsumesFront (Some all) now consumed = (consumed ≡ first_inputs (length consumed) all) × (now ≡ Some (inputs_after (length consumed) all))

-- a source has returned these inputs
pub record Follows (old now : Supply) (consumed : List Received) : Type 0 where
  pub front : ConsumesFront old.expected now.expected consumed
  pub given : now.given ≡ with_given consumed old.given

-- after these inputs the association has these fields, it had not ended before the last of them, and the devices have
-- changed by them
pub record Stood (rooms : Rooms) (s : Settings) (consumed : List Received) (seen : Fields) (old new : Devices) : Type 0 where
  pub story : List Happened
  pub failed : Bool
  pub stands : Stands rooms s consumed story failed seen new.store
  pub last : EndsLast rooms s consumed story
  pub gains : Gains rooms s at_start story false failed old new

-- this many inputs of the source were handled, or fewer if the association has ended, with this effect
pub record ConsumedTurns (rooms : Rooms) (s : Settings) (turns : ℕ) (source_old source_now : Supply) (seen : Fields) (old new : Devices) : Type 0 where
  pub consumed : List Received
  pub number : length consumed ≡ turns
  pub follows : Follows source_old source_now consumed
  pub stood : Stood rooms s consumed seen old new

-- a source returned one more input, with this effect on the association and its devices
pub record ConsumedInput (rooms : Rooms) (s : Settings) (source_old source_now : Supply) (seen_old seen_new : Fields) (old new : Devices) : Type 0 where
  pub bytes : List ℕ
  pub kind : Input
  pub gives : Gives source_old source_now bytes kind
  pub moved : (inputs : List Received) (story : List Happened) (failed : Bool) → Stands rooms s inputs story failed seen_old old.store
      → Moved rooms s inputs story failed (input_of kind bytes) seen_old seen_new old new

-- the report of an association with these fields: its state, and the number of bytes that it holds by the definition,
-- of which at most 544 are not of a message once a request is accepted
pub record Reports (rooms : Rooms) (s : Settings) (seen : Fields) (store : Store) (report : Report) : Type 0 where
  pub standing : report.standing ≡ standing_of seen.kept.state
  pub held : (inputs : List Received) (story : List Happened) (failed : Bool) → Stands rooms s inputs story failed seen store → Held rooms s (reached rooms s inputs story failed) report.held
  pub accepted_room : seen.kept.state ≡ Sta6 → report.held ≤ accepted_most + rooms.command + rooms.values + level_size * rooms.depth
