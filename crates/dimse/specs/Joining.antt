-- What the state of a `Join` says of a message (PS3.7 section 6.3; PS3.8 annex E): its fragments so far, the
-- unfinished one included, except the bytes of its data set, which a join does not keep.
use Rattle.std.specs.Prelude.{◌≡◌, ℕ, ◌-◌, ◌≤◌, Bool, true, false, List, [], length, Option, None, Some, Result, Ok, Err, nat_lt, if◌then◌else◌}
use Rattle.std.specs.Result.{result_ok}
use Rattle.pdu.specs.Heads.{is_last, pdv_head_of}
use Rattle.pdu.specs.Sizes.{pdv_head_size}
use Rattle.pdu.specs.Marks.{pdv_context, pdv_control, pdv_content, pdv_size}
use Rattle.dimse.specs.declared.fault.DimseFault.{DimseFault}
use Rattle.dimse.specs.declared.joined.Joined.{Joined}
use Rattle.dimse.specs.declared.joined.Joined.TheVariants as joined
use Rattle.dimse.specs.declared.unfinished.Unfinished.{Unfinished}
use Rattle.dimse.specs.declared.unfinished.Unfinished.TheVariants as unfinished
use Rattle.dimse.specs.Command.{CommandRecord}
use Rattle.dimse.specs.Reading.{command_in}
use Rattle.dimse.specs.Messages.{Pdv, Started, NoMessage, InCommand, InSet, Brought, Goes, Ends, Refuses, head_refusal, with_fragment}

-- ---- what a part of a fragment adds

-- the unfinished message, with the first bytes of a presentation data value: six of its head, and then its fragment
abbrev pub with_pdv : List ℕ → Started → Started
with_pdv started message = if nat_lt (length started) pdv_head_size then message else with_fragment (pdv_context started) (pdv_content started) message

-- the presentation data value that these bytes are
abbrev pub pdv_of : List ℕ → Pdv
pdv_of bytes = record { context = pdv_context bytes; control = pdv_control bytes; fragment = pdv_content bytes }

-- ---- the state of a join

-- the state of a join, as contracts see it
pub record Joining : Type 0 where
  -- the unfinished message, with an empty data set in place of its own
  pub message : Started
  -- the bytes of its command set; after the end of a message they stay there until the join is cleared or the next
  -- message starts
  pub command : List ℕ
  -- how many bytes of the unfinished fragment remain
  pub remaining : ℕ
  -- whether the unfinished fragment is marked as the last one of its set
  pub last : Bool

abbrev pub without_set : Started → Started
without_set (InSet context command set) = InSet context command []
without_set other = other

-- the bytes of the command set of an unfinished message, so far
abbrev pub command_bytes : Started → List ℕ
command_bytes NoMessage = []
command_bytes (InCommand context command) = command
command_bytes (InSet context command set) = command

-- what was received of an unfinished message, as far as it determines which fragment must follow
-- e.g. unfinished_of (InCommand 1 (9 ∷ [])) ≡ unfinished.Command 1 1
abbrev pub unfinished_of : Started → Unfinished
unfinished_of NoMessage = unfinished.Nothing
unfinished_of (InCommand context command) = unfinished.Command context (length command)
unfinished_of (InSet context command set) = unfinished.Set context

-- how many bytes an unfinished presentation data value still lacks; 0 while its head is unfinished
abbrev pub remaining_of_pdv : List ℕ → ℕ
remaining_of_pdv started = if nat_lt (length started) pdv_head_size then 0 else (pdv_size started - length started)

abbrev pub is_last_started : List ℕ → Bool
is_last_started started = if nat_lt (length started) pdv_head_size then false else is_last (pdv_control started)

abbrev pub shown : Started → List ℕ → Joining
shown message started = record {
  message = without_set message;
  command = command_bytes message;
  remaining = remaining_of_pdv started;
  last = is_last_started started;
}

-- The state of the join is that of this unfinished message, from whole presentation data values, and of these first
-- bytes of the next one, whose head was accepted.
pub record ShowsMessage (room : ℕ) (join : Joining) (message : Started) (started : List ℕ) : Type 0 where
  pub shows : join ≡ shown (with_pdv started message) started
  pub accepted : pdv_head_size ≤ length started → head_refusal room message (pdv_head_of started) ≡ None

-- ---- the results of its calls

abbrev pub ok_unless : Option DimseFault → Result (Unit {0}) DimseFault
ok_unless None = Ok tt
ok_unless (Some fault) = Err fault

-- the result of the end of a fragment after which the message is unfinished: more of the same set, or the data set,
-- must follow
abbrev pub continues : Started → Started → Joined
continues (InSet first command set) later = joined.More
continues before (InSet first command set) = joined.DataDue
continues before later = joined.More

-- a join after the end of a message, which still has its command set
abbrev pub lending : List ℕ → Joining
lending command = record { message = NoMessage; command = command; remaining = 0; last = false }

-- The state of a join after the end of a presentation data value: that of the unfinished message, or that after the
-- end of the message; a rejected one leaves it unchanged.
abbrev pub Joins : ℕ → Started → Brought → Joining → Joining → Result Joined DimseFault → Type 0
Joins room before (Goes later) old new result = (result ≡ Ok (continues before later)) × ShowsMessage room new later []
Joins room before (Ends m) old new result = (result ≡ Ok joined.Message) × (new ≡ lending m.command)
Joins room before (Refuses fault) old new result = (result ≡ Err fault) × (new ≡ old)

-- the result of the end of a fragment without the command
abbrev pub joined_in : Result (Joined × Option CommandRecord) DimseFault → Result Joined DimseFault
joined_in (Ok (state, command)) = Ok state
joined_in (Err fault) = Err fault

-- the command that the end of a fragment completes, if it is the last of a command set
abbrev pub completed_command : Started → Bool → Option CommandRecord
completed_command (InCommand context command) true = result_ok (command_in command)
completed_command other last = None

-- the presentation context ID of the unfinished message
abbrev pub InContext : Started → ℕ → Type 0
InContext NoMessage id = Unit {0}
InContext (InCommand context command) id = id ≡ context
InContext (InSet context command set) id = id ≡ context
