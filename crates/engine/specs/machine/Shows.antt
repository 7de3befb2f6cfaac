-- The fields of an association inside a PDU: the position of its deframer, and what is held of the PDU.
use Rattle.std.specs.Prelude.{◌≡◌, ℕ, ◌≤◌, Bool, true, false, List, [], ◌∷◌, ◌++◌, length, take, map}
use Rattle.pdu.specs.Frames.{IsRest, rest_of}
use Rattle.pdu.specs.Sizes.{pdv_head_size}
use Rattle.pdu.specs.Marks.{Mark, Head, PdvHead, Pdv, BadPdv, Leftover, End, pdv_size, pdv_mark, new_marks}
use Rattle.pdu.specs.Spot.{spot}
use Rattle.negotiate.specs.Settings.{Settings}
use Rattle.engine.specs.Timeline as timeline
use Rattle.engine.specs.Timeline.{Happened, entries_of}
use Rattle.engine.specs.Progress.{Progress, absorb}
use Rattle.engine.specs.Devices.{Devices}
use Rattle.engine.specs.Run.{Rooms, progress_of}
use Rattle.engine.specs.Fair.{MayFail, AreFair}
use Rattle.engine.specs.Held.{is_ended}
use Rattle.engine.specs.Reached.{started_in}
use Rattle.engine.specs.FrameFields.{Fields, StandsAt, ShowsFrame, body_of}
use Rattle.engine.specs.Gains.{Gains}
use Rattle.engine.specs.Kept.{Pends, body_in}
use Rattle.part10.specs.Store.{Store}
use Rattle.engine.specs.machine.Does.{DoesAll}

-- ---- the association

-- the bytes c of the stream were handled, after the bytes r of an unfinished PDU
pub record DoesPart (rooms : Rooms) (s : Settings) (f : Fields) (p : Progress) (r c : List ℕ) (old new : Devices) : Type 0 where
  pub story : List Happened
  pub failed : Bool
  pub reported : entries_of story ≡ map timeline.At (new_marks r c)
  pub fair : AreFair rooms s p story
  pub last : failed ≡ true → MayFail (progress_of rooms s p story) (progress_of rooms s p story)
  pub shows : ShowsFrame f new.store (absorb failed (progress_of rooms s p story)) (rest_of (r ++ c))
  pub gains : Gains rooms s p story false failed old new

-- ---- between two events, with marks `due` that are complete and that no event has reported yet

-- the received bytes of a request's body and of a presentation data value whose end has not been reported yet
abbrev pub Pending : List ℕ → List Mark → List ℕ → List ℕ → Type 0
Pending r [] body started = (body ≡ body_of r) × (started ≡ started_in (spot r))
Pending r (Head kind n ∷ later) body started = (body ≡ []) × (started ≡ [])
Pending r (PdvHead n context control ∷ later) body started = (body ≡ []) × (started ≡ [])
Pending r (Pdv context control fragment ∷ later) body started = (body ≡ []) × (pdv_head_size ≤ length started) × (length started ≡ pdv_size started) × (pdv_mark started ≡ Pdv context control fragment)
Pending r (BadPdv ∷ later) body started = (body ≡ []) × (started ≡ [])
Pending r (Leftover ∷ later) body started = (body ≡ []) × (started ≡ [])
Pending r (End kind whole ∷ later) body started = (body ≡ body_in kind whole) × (started ≡ [])

-- the fields are those of this state of the timeline, after the bytes r of an unfinished PDU, with these marks due
pub record ShowsDue (f : Fields) (store : Store) (p : Progress) (r : List ℕ) (due : List Mark) : Type 0 where
  pub is_at : StandsAt f.position f.kept r due
  pub body : List ℕ
  pub started : List ℕ
  pub pending : Pending r due body started
  pub pends : Pends f.kept store p body started

-- Bytes were handled while marks were due: the events of some marks were handled, and the others are due afterwards;
-- none is if there are no more events.
pub record Handles (rooms : Rooms) (s : Settings) (f : Fields) (p : Progress) (r : List ℕ) (due : List Mark) (c : List ℕ) (more : Bool) (old new : Devices) : Type 0 where
  pub marks : List Mark
  pub later : List Mark
  pub all : due ++ new_marks r c ≡ marks ++ later
  pub body : List ℕ
  pub started : List ℕ
  pub does : DoesAll rooms s p (map timeline.At marks) f.kept body started old new
  pub pending : Pending (rest_of (r ++ c)) later body started
  pub is_at : StandsAt f.position f.kept (rest_of (r ++ c)) later
  pub none_due : more ≡ false → later ≡ []

-- so many bytes of a piece were read, up to the next event, if there is one, and that was handled
abbrev pub DoesNext : Rooms → Settings → Fields → Fields → List ℕ → ℕ × Bool → Devices → Devices → Type 0
DoesNext rooms s old new piece consumed d e = (p : Progress) (r : List ℕ) (due : List Mark) → ShowsDue old d.store p r due → Handles rooms s new p r due (take consumed.0 piece) consumed.1 d e

-- a piece of the stream was handled
abbrev pub DoesPiece : Rooms → Settings → Fields → Fields → List ℕ → Devices → Devices → Type 0
DoesPiece rooms s old new c d e = (p : Progress) (r : List ℕ) → IsRest r → is_ended p.state ≡ false → ShowsFrame old d.store p r → DoesPart rooms s new p r c d e
