-- Definitions for the lemmas on messages: lists of presentation data values, one after the other, and the fragments
-- at their front.
use Rattle.std.specs.Prelude.{◌≡◌, ℕ, List, ◌++◌, None, Some}
use Rattle.dimse.specs.Messages.{Pdv, Started, Message, IsMessage, Messages, messages, messages_from}

-- the messages of one list of presentation data values followed by another, given those of each
abbrev pub and_then : Messages → Messages → Messages
and_then first second = elim first.fault [
  | None ↦ record { whole = first.whole ++ second.whole; started = second.started; fault = second.fault }
  | Some fault ↦ first
]

-- the messages of a list stay the same when it is continued
abbrev pub MessagesContinue : Type 0
MessagesContinue = (room : ℕ) (b : Started) (first more : List Pdv)
    → messages_from room b (first ++ more) ≡ and_then (messages_from room b first) (messages_from room (messages_from room b first).started more)

-- the list begins with the fragments of this message; these are the messages of the rest
pub record BeginsWith (room : ℕ) (m : Message) (later : List Message) (ps : List Pdv) : Type 0 where
  pub commands : List Pdv
  pub sets : List Pdv
  pub more : List Pdv
  pub parts : ps ≡ (commands ++ sets) ++ more
  pub message : IsMessage room m commands sets
  pub rest : (messages room more).whole ≡ later
