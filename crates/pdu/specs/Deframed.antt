-- The position of a deframer in its stream: its fields are determined by the bytes of the unfinished PDU and by the
-- marks that are due, that is, completed and not yet reported by an event.
use Rattle.std.specs.Prelude.{ℕ, List}
use Rattle.pdu.specs.declared.deframer.Deframer.{Deframer}
use Rattle.pdu.specs.declared.position.Position.{Position}
use Rattle.pdu.specs.Marks.{Mark}
use Rattle.pdu.specs.Deframing.{At, SkipsAt}

abbrev pub position_of : Deframer → Position
position_of d = d.position

-- the deframer is at the end of the bytes r of an unfinished PDU, and these marks are due
abbrev pub IsAt : Deframer → List ℕ → List Mark → Type 0
IsAt d r due = At (position_of d) r due

-- the deframer has read the bytes r of a PDU and skips its rest
abbrev pub Skips : Deframer → List ℕ → Type 0
Skips d r = SkipsAt (position_of d) r
