-- Calls of `Deframer::next`, one after another.
use Rattle.std.specs.Prelude.{◌≡◌, ℕ, List, [], ◌++◌, map, Option}
use Rattle.pdu.specs.declared.event.Event.{Event}
use Rattle.pdu.specs.declared.position.Position.{Position}
use Rattle.pdu.specs.Frames.{rest_of}
use Rattle.pdu.specs.Marks.{Mark}
use Rattle.pdu.specs.Events.{Token, Completes, tokens}
use Rattle.pdu.specs.Deframing.{Consumed}

-- the deframer was inside the unfinished PDU r with the marks `due` not yet reported; its calls then consumed these
-- bytes and reported these tokens, and after them the marks of the last list are due
pub data Calls : List ℕ → List Mark → List ℕ → List Token → List Mark → Type 0 where
  none : {r : List ℕ} {due : List Mark} → Calls r due [] [] due
  one_more : {new : Position} {r : List ℕ} {due : List Mark} {consumed : List ℕ} {e : Option Event} {bytes : List ℕ} {reported : List Token} {later : List Mark}
      → (t : Consumed new r due consumed e) → Calls (rest_of (r ++ consumed)) t.later bytes reported later
      → Calls r due (consumed ++ bytes) (t.reported ++ reported) later

-- the calls that consume a piece report the marks that were due before and the tokens of the piece, except the marks
-- that are due afterwards
abbrev pub CallsReportAll : Type 0
CallsReportAll = (r : List ℕ) (due : List Mark) (piece : List ℕ) (reported : List Token) (later : List Mark) → Calls r due piece reported later
    → map Completes due ++ tokens r piece ≡ reported ++ map Completes later
