-- The invariant of an association: its fields, and the filing, are in the state that its inputs so far determine. No
-- history is stored.
use Rattle.std.specs.Prelude.{◌≡◌, Bool, true, List, []}
use Rattle.pdu.specs.Deframing.{At}
use Rattle.negotiate.specs.Settings.{Settings}
use Rattle.part10.specs.Store.{Store}
use Rattle.engine.specs.Held.{is_ended}
use Rattle.engine.specs.FrameFields.{Fields, ShowsFrame}
use Rattle.engine.specs.Inputs.{Received}
use Rattle.engine.specs.Timeline.{Happened}
use Rattle.engine.specs.Run.{Rooms}
use Rattle.engine.specs.Fair.{IsStory}
use Rattle.engine.specs.Drafts.{IsDraft}
use Rattle.engine.specs.StoredData.{drafting_in}
use Rattle.engine.specs.Reached.{Reached, reached, message_so_far}

-- ---- the association

-- The fields are those of this state of the timeline and of the unfinished PDU; once the association has ended they
-- have no byte of a head.
pub record Shows (f : Fields) (store : Store) (r : Reached) : Type 0 where
  pub frame : ShowsFrame f store r.progress r.rest
  pub headless : is_ended r.progress.state ≡ true → At f.position [] []

-- the filing has the draft that the state of the timeline requires, and no other
abbrev pub IsDraftAt : Reached → Store → Bool → Type 0
IsDraftAt r store drafting = IsDraft r.progress.request (message_so_far r) r.progress.filing_failed store drafting

-- whether the association has a draft in the filing
abbrev pub drafting : Fields → Bool
drafting f = drafting_in f.kept.storing

-- ---- the association and the filing

-- After these inputs, with this story, the association and the filing are in the state that the timeline determines.
pub record Stands (rooms : Rooms) (s : Settings) (inputs : List Received) (story : List Happened) (failed : Bool) (fields : Fields) (store : Store) : Type 0 where
  pub story_is : IsStory rooms s inputs story failed
  pub shows : Shows fields store (reached rooms s inputs story failed)
  pub draft : IsDraftAt (reached rooms s inputs story failed) store (drafting fields)
