-- How the fields of an association depend on the bytes of the unfinished PDU.
use Rattle.std.specs.Prelude.{◌≡◌, ℕ, false, List, []}
use Rattle.pdu.specs.declared.position.Position.{Position}
use Rattle.pdu.specs.Marks.{Mark, frame_kind, frame_body}
use Rattle.pdu.specs.Spot.{spot}
use Rattle.pdu.specs.Deframing.{At, SkipsAt}
use Rattle.engine.specs.Progress.{Progress}
use Rattle.engine.specs.Reached.{started_in}
use Rattle.engine.specs.Held.{is_ended}
use Rattle.engine.specs.Kept.{Kept, Pends, body_in, accepts_pdvs_in, accepts_body_in}
use Rattle.part10.specs.Store.{Store}

-- the received bytes of the body, if the unfinished PDU r is an A-ASSOCIATE-RQ
abbrev pub body_of : List ℕ → List ℕ
body_of r = body_in (frame_kind r) (frame_body r)

pub record Fields : Type 0 where
  pub position : Position
  pub kept : Kept

-- neither the presentation data values nor the body of a PDU of this type are handled
pub record IsUncounted (kept : Kept) (kind : ℕ) : Type 0 where
  pub pdvs : accepts_pdvs_in kept ≡ false
  pub body : accepts_body_in kept kind ≡ false

-- the deframer is at the end of the bytes r of a PDU, with these marks due; or it skips the rest of the PDU, which is
-- not handled
pub data StandsAt (q : Position) (kept : Kept) (r : List ℕ) (due : List Mark) : Type 0 where
  reads : At q r due → StandsAt q kept r due
  skips : SkipsAt q r → IsUncounted kept (frame_kind r) → due ≡ [] → StandsAt q kept r due

-- the fields are those of this progress and these bytes of an unfinished PDU; of no PDU once the association has
-- ended
pub record ShowsFrame (f : Fields) (store : Store) (p : Progress) (r : List ℕ) : Type 0 where
  pub framed : is_ended p.state ≡ false → StandsAt f.position f.kept r []
  pub pends : Pends f.kept store p (body_of r) (started_in (spot r))
