-- The position of the deframer of an association: inside an unfinished PDU that is handled, or inside one that is
-- skipped since it is ignored.
use Rattle.std.specs.Prelude.{Bool, true, false, ◌||◌, if◌then◌else◌}
use Rattle.pdu.specs.declared.position.Position.{Position}
use Rattle.pdu.specs.declared.position.Position.TheVariants as position
use Rattle.pdu.specs.Steps.{body_kind, skip_of}
use Rattle.engine.specs.Kept.{Kept, accepts_pdvs_in, accepts_body_in}

-- the position, where the rest of a PDU that is ignored is skipped
abbrev pub passed : Kept → Position → Position
passed kept q = if accepts_pdvs_in kept || accepts_body_in kept (body_kind q) then q else skip_of q

-- the position is inside the head of a presentation data value
abbrev pub in_pdv_head : Position → Bool
in_pdv_head (position.PdvHead remaining bytes) = true
in_pdv_head other = false
