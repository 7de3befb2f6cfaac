-- The reaction that a call without devices returns: an event that is still to be performed, or nothing.
use Rattle.std.specs.Prelude.{◌≡◌, ℕ, List, [], length, if◌then◌else◌}
use Rattle.acceptor.specs.declared.state.State.{State}
use Rattle.acceptor.specs.declared.state.State.TheVariants.{Sta6}
use Rattle.pdu.specs.declared.head.PdvHead.{PdvHead}
use Rattle.pdu.specs.Heads.{pdv_head_of}
use Rattle.pdu.specs.Marks.{End, head_mark}
use Rattle.pdu.specs.Sizes.{pdv_head_size}
use Rattle.negotiate.specs.Settings.{Settings}
use Rattle.part10.specs.Store.{Store}
use Rattle.engine.specs.declared.sending.Reaction.{Reaction}
use Rattle.engine.specs.declared.sending.Reaction.TheVariants as due
use Rattle.engine.specs.Timeline.{Entry, At, good}
use Rattle.decisions.specs.declared.decision.Decision.{Decision}
use Rattle.engine.specs.Progress.{Progress, Advance, deciding, nothing}
use Rattle.engine.specs.Reached.{accepts_pdvs}
use Rattle.engine.specs.Replies.{invalid}
use Rattle.engine.specs.Run.{Rooms, at_entry}
use Rattle.engine.specs.Kept.{Kept, Pends, body_in}
use Rattle.engine.specs.machine.Answers.{due_at}
use Rattle.engine.specs.machine.PerformsReaction.{Stays}

-- the reaction ends the association or keeps the state
abbrev pub StaysThen : State → Reaction → Type 0
StaysThen state due.Nothing = Unit {0}
StaysThen state (due.Perform event answering) = Stays state event
StaysThen state due.Release = state ≡ Sta6

-- the fields are those of a state of the timeline in which the reaction has the effect g
pub record LeavesDue (g : Advance) (due : Reaction) (new : Kept) (store : Store) (body started : List ℕ) : Type 0 where
  pub shown : Progress
  pub pends : Pends new store shown body started
  pub gives : g ≡ due_at due shown

-- an entry was handled without devices: the reaction has the rest of its effect
abbrev pub Judges : Rooms → Settings → Kept → Kept → Entry → Reaction → Store → Type 0
Judges rooms s old new entry due store = (p : Progress) → Pends old store p [] [] → LeavesDue (at_entry rooms s p good entry) due new store [] []

-- the same for the head of a presentation data value
abbrev pub JudgesPdvHead : Rooms → Settings → Kept → Kept → PdvHead → Reaction → Store → Type 0
JudgesPdvHead rooms s old new head due store = (p : Progress) (started : List ℕ) → length started ≡ pdv_head_size → head ≡ pdv_head_of started → Pends old store p [] []
    → LeavesDue (at_entry rooms s p good (At (head_mark started))) due new store [] started

-- the same for the end of a PDU of this type, of whose body nothing is held any more
abbrev pub JudgesEnd : Rooms → Settings → Kept → Kept → ℕ → Reaction → Store → Type 0
JudgesEnd rooms s old new kind due store = (p : Progress) (body : List ℕ) → Pends old store p (body_in kind body) [] → LeavesDue (at_entry rooms s p good (At (End kind body))) due new store [] []

-- the same for an invalid presentation data value, by which this is decided
abbrev pub JudgesInvalid : Decision → Kept → Kept → Reaction → Store → Type 0
JudgesInvalid decision old new due store = (p : Progress) → Pends old store p [] [] → LeavesDue (if accepts_pdvs p then invalid (deciding decision p) else nothing p) due new store [] []
