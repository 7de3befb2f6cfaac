-- Portions of the received stream that end with a part of a PDU: a head, a body, a fragment, or a PDU that is skipped.
-- What is decided is decided with the last byte of a part.
use Rattle.std.specs.Prelude.{◌≡◌, ◌≢◌, ℕ, ◌<◌, Bool, List, [], ◌∷◌, length}
use Rattle.negotiate.specs.Settings.{Settings}
use Rattle.engine.specs.Devices.{Devices}
use Rattle.engine.specs.FrameFields.{Fields}
use Rattle.engine.specs.Inputs.{Received, Bytes, stream_of}
use Rattle.engine.specs.Moves.{Moved}
use Rattle.engine.specs.Progress.{Progress, at_start}
use Rattle.engine.specs.Run.{Rooms, progress_of, sent_of, files_of}
use Rattle.engine.specs.Stands.{Stands}
use Rattle.engine.specs.Timeline.{Happened, entries, entries_of}

-- the entries decide nothing: nothing is sent for them and no file is stored, whatever the devices do
pub record DecidesNothing (rooms : Rooms) (s : Settings) (p : Progress) (story : List Happened) : Type 0 where
  pub decided : (progress_of rooms s p story).decided ≡ p.decided
  pub sent : sent_of rooms s p story ≡ []
  pub files : files_of rooms s p story ≡ []

-- after these inputs, a piece of fewer than `most` bytes decides nothing
abbrev pub DecidesNothingBefore : Rooms → Settings → List Received → List Happened → ℕ → Type 0
DecidesNothingBefore rooms s inputs story most =
    (piece : List ℕ) (more : List Happened) → length piece < most → entries_of more ≡ entries (stream_of inputs) (Bytes piece ∷ [])
    → DecidesNothing rooms s (progress_of rooms s at_start story) more

-- after these inputs, a piece of `most` bytes completes a part: it continues the timeline
abbrev pub CompletesPart : List Received → ℕ → Type 0
CompletesPart inputs most = (piece : List ℕ) → length piece ≡ most → entries (stream_of inputs) (Bytes piece ∷ []) ≢ []

-- an association that receives fewer bytes keeps what it decided last
abbrev pub FewerKeepTheDecision : Type 0
FewerKeepTheDecision =
    (rooms : Rooms) (s : Settings) (inputs : List Received) (story : List Happened) (failed : Bool) (piece : List ℕ) (most : ℕ) (seen seen_new : Fields) (old new : Devices)
    → Stands rooms s inputs story failed seen old.store → DecidesNothingBefore rooms s inputs story most → length piece < most
    → Moved rooms s inputs story failed (Bytes piece) seen seen_new old new → seen_new.kept.decided ≡ seen.kept.decided
