-- The state of an association after some inputs, with the bytes of the unfinished PDU and of the unfinished message
-- (PS3.8 section 9.3.5 and annex E).
use Rattle.std.specs.Prelude.{ℕ, Bool, not, ◌&&◌, List, [], if◌then◌else◌}
use Rattle.pdu.specs.Frames.{rest_of}
use Rattle.pdu.specs.Spot.{Spot, Opening, Plain, InPdv, spot}
use Rattle.negotiate.specs.Settings.{Settings}
use Rattle.dimse.specs.Messages.{Started}
use Rattle.dimse.specs.Joining.{with_pdv}
use Rattle.engine.specs.Inputs.{Received, stream_of}
use Rattle.engine.specs.Timeline.{Happened}
use Rattle.engine.specs.Progress.{Progress, at_start, absorb, is_established}
use Rattle.engine.specs.Run.{Rooms, progress_of}

-- the state after the entries of the timeline, and the bytes of the unfinished PDU
pub record Reached : Type 0 where
  pub progress : Progress
  pub rest : List ℕ

-- the state after these inputs, with this story; `failed` says whether a call of the filing has failed after its last
-- entry (law `engine::held_during_the_echo`)
abbrev pub reached : Rooms → Settings → List Received → List Happened → Bool → Reached
reached rooms s inputs story failed = record { progress = absorb failed (progress_of rooms s at_start story); rest = rest_of (stream_of inputs) }

-- the bytes of the unfinished presentation data value, if there is one
-- e.g. started_in (InPdv (1 ∷ [])) ≡ 1 ∷ []; started_in Plain ≡ []
abbrev pub started_in : Spot → List ℕ
started_in Opening = []
started_in Plain = []
started_in (InPdv started) = started

-- whether the presentation data values of the unfinished PDU are handled
-- e.g. accepts_pdvs at_start ≡ false
abbrev pub accepts_pdvs : Progress → Bool
accepts_pdvs p = is_established p.state && not p.refused

-- the bytes of the unfinished presentation data value, with its head; none if they are not handled (law
-- `engine::held_in_a_data_set`)
abbrev pub started_pdv : Reached → List ℕ
started_pdv r = if accepts_pdvs r.progress then started_in (spot r.rest) else []

-- the unfinished message, with the bytes of the unfinished fragment (law `engine::held_in_a_data_set`)
abbrev pub message_so_far : Reached → Started
message_so_far r = with_pdv (started_pdv r) r.progress.message
