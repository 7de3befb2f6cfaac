-- Statements on the timeline: further inputs, the division into pieces, and the time after the end of an association.
use Rattle.std.specs.Prelude.{◌≡◌, ℕ, Bool, List, [], ◌∷◌, ◌++◌}
use Rattle.acceptor.specs.declared.state.State.{State}
use Rattle.acceptor.specs.declared.state.State.TheVariants.{Sta1}
use Rattle.negotiate.specs.Settings.{Settings}
use Rattle.engine.specs.Inputs.{Received, Bytes, Close, Expiry, UserAbort, stream_of}
use Rattle.engine.specs.Timeline.{Entry, Finding, Happened, entries}
use Rattle.engine.specs.Progress.{Progress, Advance}
use Rattle.engine.specs.Run.{Rooms, at_entry}
use Rattle.engine.specs.Ran.{Run}

-- further inputs append entries to the timeline and change none of the earlier ones
abbrev pub EntriesAppend : Type 0
EntriesAppend = (before inputs : List Received) → entries [] (before ++ inputs) ≡ entries [] before ++ entries (stream_of before) inputs

-- an entry without effect: nothing is sent, no file is stored, nothing is decided, and the association has ended
pub record IsIdle (p : Progress) (g : Advance) : Type 0 where
  pub sent : g.sent ≡ []
  pub files : g.files ≡ []
  pub ended : g.next.state ≡ Sta1
  pub decided : g.next.decided ≡ p.decided

-- no entry has an effect in an association that has ended
abbrev pub NothingAfterTheEnd : Type 0
NothingAfterTheEnd = (rooms : Rooms) (s : Settings) (p : Progress) → p.state ≡ Sta1 → (finding : Finding) (e : Entry) → IsIdle p (at_entry rooms s p finding e)

-- ---- how the stream is divided into pieces

-- the inputs with adjacent pieces joined; `piece` are the joined bytes so far
abbrev pub put_together : List ℕ → List Received → List Received
put_together piece [] = Bytes piece ∷ []
put_together piece (Bytes more ∷ inputs) = put_together (piece ++ more) inputs
put_together piece (Close ∷ inputs) = Bytes piece ∷ Close ∷ put_together [] inputs
put_together piece (Expiry ∷ inputs) = Bytes piece ∷ Expiry ∷ put_together [] inputs
put_together piece (UserAbort ∷ inputs) = Bytes piece ∷ UserAbort ∷ put_together [] inputs

-- two lists of inputs with the same bytes, divided into pieces in any way, and the same other inputs
abbrev pub DifferInCuts : List Received → List Received → Type 0
DifferInCuts a b = put_together [] a ≡ put_together [] b

-- Two lists of inputs that differ only in how bytes are divided into pieces have the same timeline; with the same
-- outcomes they send the same bytes, store the same files and end in the same state.
abbrev pub CutsDoNotShow : Type 0
CutsDoNotShow = (rooms : Rooms) (s : Settings) (a b : List Received) → DifferInCuts a b
    → (entries [] a ≡ entries [] b)
    × ((story : List Happened) (failed : Bool) (sent : List ℕ) (files : List (List ℕ)) (state : State) → Run rooms s a story failed sent files state → Run rooms s b story failed sent files state)
