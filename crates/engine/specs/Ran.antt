-- A run: which inputs were handled, and their effect.
use Rattle.std.specs.Prelude.{◌≡◌, ◌≢◌, ℕ, zero, suc, ◌+◌, ◌*◌, ◌<◌, ◌≤◌, Bool, false, List, [], length, take, Option, Some}
use Rattle.acceptor.specs.declared.state.State.{State}
use Rattle.acceptor.specs.declared.state.State.TheVariants.{Sta1, Sta6, Sta13}
use Rattle.sequence.specs.Wanted.{level_size}
use Rattle.negotiate.specs.declared.config.Config.{Config}
use Rattle.negotiate.specs.Settings.{Settings, settings_of}
use Rattle.part10.specs.Store.{reported_after}
use Rattle.engine.specs.declared.report.Standing.{Standing}
use Rattle.engine.specs.declared.report.Standing.TheVariants as standing
use Rattle.engine.specs.declared.report.Report.{Report}
use Rattle.engine.specs.Devices.{Devices, line_with, filed}
use Rattle.engine.specs.Fair.{IsStory}
use Rattle.engine.specs.Held.{Held, accepted_most}
use Rattle.engine.specs.Inputs.{Received, Supply, first_inputs, others_of, with_given}
use Rattle.engine.specs.Progress.{at_start}
use Rattle.engine.specs.Reached.{reached}
use Rattle.engine.specs.Run.{Rooms, rooms_of, progress_of, sent_of, files_of, wire_failures, filing_failures}
use Rattle.engine.specs.Timeline.{Happened, entries}

-- The inputs, with this story (the entries of their timeline with their outcomes), send these bytes, store these files,
-- and lead to this state (law `engine::the_echo_runs`)
pub record Run (rooms : Rooms) (s : Settings) (inputs : List Received) (story : List Happened) (failed : Bool) (sent : List ℕ) (files : List (List ℕ)) (state : State) : Type 0 where
  pub story_is : IsStory rooms s inputs story failed
  pub sent_is : sent ≡ sent_of rooms s at_start story
  pub files_are : files ≡ files_of rooms s at_start story
  pub state_is : state ≡ (progress_of rooms s at_start story).state

-- the inputs after the first n
-- e.g. inputs_after 1 (Expiry ∷ Close ∷ []) ≡ Close ∷ []
abbrev pub inputs_after : ℕ → List Received → List Received
inputs_after zero xs = xs
inputs_after (suc n) xs = inputs_after n (others_of xs)

-- the part of the story that the first n inputs cause (law `engine::the_echo_runs`)
abbrev pub story_after : ℕ → List Received → List Happened → List Happened
story_after n inputs story = take (length (entries [] (take n inputs))) story

-- the association has not ended before the last of the inputs
abbrev pub EndsLast : Rooms → Settings → List Received → List Happened → Type 0
EndsLast rooms s inputs story = (n : ℕ) → n < length inputs → (progress_of rooms s at_start (story_after n inputs story)).state ≢ Sta1

-- the summary of a state of the acceptor, as a run reports it: open, closing or ended
-- e.g. standing_of Sta13 ≡ standing.Closing; standing_of Sta6 ≡ standing.Open
abbrev pub standing_of : State → Standing
standing_of Sta1 = standing.Ended
standing_of Sta13 = standing.Closing
standing_of state = standing.Open

-- The effect of the inputs: a story of them gives the bytes that were sent, the files that were stored, the state of
-- the association and the number of held bytes, of which at most 544 are not of a message once a request is accepted;
-- and the number of failures of the wire and of the filing. No draft remains (law `engine::a_store_is_filed`).
pub record Answered (rooms : Rooms) (s : Settings) (consumed : List Received) (report : Report) (old new : Devices) : Type 0 where
  pub story : List Happened
  pub failed : Bool
  pub sent : List ℕ
  pub files : List (List ℕ)
  pub state : State
  pub run : Run rooms s consumed story failed sent files state
  pub last : EndsLast rooms s consumed story
  pub standing : report.standing ≡ standing_of state
  pub held : Held rooms s (reached rooms s consumed story failed) report.held
  pub accepted_room : state ≡ Sta6 → report.held ≤ accepted_most + rooms.command + rooms.values + level_size * rooms.depth
  pub line : new.line ≡ line_with sent (wire_failures story) old.line
  pub reported : new.store.reported ≡ reported_after (filed files) old.store.reported
  pub count : new.store.failures ≡ old.store.failures + filing_failures story failed

-- the source has returned these inputs, and the others remain
pub record LeavesOthers (consumed all : List Received) (new : Option (List Received)) : Type 0 where
  pub first : consumed ≡ first_inputs (length consumed) all
  pub others : new ≡ Some (inputs_after (length consumed) all)

-- The first inputs of the source were handled, as many as there were turns, or fewer if the last of them ended the
-- association, with this effect; no draft remains. They are the first of the remaining ones, and those that the source
-- has returned, as far as each is known.
pub record Ran (rooms : Rooms) (s : Settings) (turns : ℕ) (report : Report) (source_old source_new : Supply) (old new : Devices) : Type 0 where
  pub consumed : List Received
  pub most_turns : length consumed ≤ turns
  pub all_turns : length consumed < turns → report.standing ≡ standing.Ended
  pub source : (all : List Received) → source_old.expected ≡ Some all → LeavesOthers consumed all source_new.expected
  pub given : source_new.given ≡ with_given consumed source_old.given
  pub answered : Answered rooms s consumed report old new
  pub no_draft : new.store.has_draft ≡ false

-- an association with these limits (`Rooms`) and this configuration ran with this effect
abbrev pub RanWith : (A C V D : ℕ) → Config → ℕ → Report → Supply → Supply → Devices → Devices → Type 0
RanWith A C V D config = Ran (rooms_of A C V D) (settings_of config)
