-- That an association which decides to abort sends an A-ABORT (PS3.8 sections 9.2.3 and 9.3.8).
use Rattle.std.specs.Prelude.{◌≡◌, ◌⊎◌, ℕ, Bool, true, false, List, [], ◌++◌}
use Rattle.acceptor.specs.declared.state.State.{State}
use Rattle.acceptor.specs.declared.state.State.TheVariants.{Sta3, Sta8}
use Rattle.pdu.specs.Texts.{abort_text}
use Rattle.negotiate.specs.Settings.{Settings}
use Rattle.decisions.specs.declared.decision.Decision.{Decision}
use Rattle.decisions.specs.declared.decision.Decision.TheVariants as decision
use Rattle.engine.specs.Progress.{Progress, at_start}
use Rattle.engine.specs.Run.{Rooms, at_entry, progress_of, sent_of, wire_failures}
use Rattle.engine.specs.Timeline.{Entry, Finding, Happened}

-- whether an association that decides this sends an A-ABORT
-- e.g. is_aborting decision.BadPdv ≡ true; is_aborting decision.Aborted ≡ false
abbrev pub is_aborting : Decision → Bool
is_aborting (decision.PduRefused head fault) = true
is_aborting (decision.RequestInvalid fault) = true
is_aborting (decision.ContextRefused head) = true
is_aborting (decision.FragmentRefused head fault before) = true
is_aborting decision.BadPdv = true
is_aborting (decision.Leftover end) = true
is_aborting (decision.CommandRefused fault field) = true
is_aborting other = false

-- whether inputs are read in this state: in Sta3 and Sta8 the local user responds before the next input is read
-- e.g. reads_inputs Sta8 ≡ false
abbrev pub reads_inputs : State → Bool
reads_inputs Sta3 = false
reads_inputs Sta8 = false
reads_inputs state = true

-- the bytes end with an A-ABORT
pub record EndsWithAbort (bytes : List ℕ) : Type 0 where
  pub front : List ℕ
  pub source : ℕ
  pub reason : ℕ
  pub whole : bytes ≡ front ++ abort_text source reason

-- an A-ABORT was sent last, unless nothing was decided anew and nothing was sent
abbrev pub AbortsUnlessKept : Progress → Progress → List ℕ → Type 0
AbortsUnlessKept before after sent = EndsWithAbort sent ⊎ ((after.decided ≡ before.decided) × (sent ≡ []))

-- an entry after which the decision is to abort has sent an A-ABORT, or leaves an earlier decision as it was
abbrev pub EntriesAbort : Type 0
EntriesAbort =
    (rooms : Rooms) (s : Settings) (p : Progress) (finding : Finding) (e : Entry) → let g = at_entry rooms s p finding e in
    reads_inputs p.state ≡ true → is_aborting g.next.decided ≡ true → AbortsUnlessKept p g.next g.sent

-- What an association has sent for more entries, if no send failed in them and the decision after them is to abort,
-- ends with an A-ABORT, unless that was decided before them.
abbrev pub StoriesAbort : Type 0
StoriesAbort =
    (rooms : Rooms) (s : Settings) (story more : List Happened) → let p = progress_of rooms s at_start story in let q = progress_of rooms s p more in
    wire_failures more ≡ 0 → is_aborting q.decided ≡ true → AbortsUnlessKept p q (sent_of rooms s p more)
