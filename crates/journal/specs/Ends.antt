-- Which decisions end an association, how, and how its end is counted (PS3.8 sections 7 and 9). This product's own
-- profile.
use Rattle.std.specs.Prelude.{◌≡◌, ℕ, List, ◌++◌, Option, Some, None}
use Rattle.pdu.specs.Texts.{abort_text}
use Rattle.service.specs.declared.observer.ReadEnd.TheVariants as read
use Rattle.decisions.specs.declared.decision.Decision.{Decision}
use Rattle.decisions.specs.declared.decision.Decision.TheVariants as decision
use Rattle.journal.specs.declared.end.Abort.{Abort}
use Rattle.journal.specs.declared.end.End.{End}
use Rattle.journal.specs.declared.end.End.TheVariants as ends
use Rattle.metrics.specs.declared.ends.CountedEnd.{CountedEnd}
use Rattle.metrics.specs.declared.ends.CountedEnd.TheVariants as counted
use Rattle.negotiate.specs.declared.answer.Answer.TheVariants as answer

abbrev pub counted_as : End → CountedEnd
counted_as ends.Released = counted.Released
counted_as (ends.Rejected rejection) = counted.Rejected
counted_as (ends.AbortedByPeer abort) = counted.AbortedByPeer
counted_as (ends.Aborted abort why) = counted.AbortedByBox
counted_as (ends.Read read.Closed) = counted.Closed
counted_as (ends.Read read.Timer) = counted.TimerExpired
counted_as (ends.Read read.Idle) = counted.Idle
counted_as (ends.Read read.Longest) = counted.TooLong
counted_as (ends.Read read.Stopped) = counted.Stopping
counted_as (ends.Read read.Failed) = counted.ConnectionFailed
counted_as ends.SendFailed = counted.ConnectionFailed
counted_as ends.FileLost = counted.FileLost

-- how an association is counted by its end; one whose end was not seen is counted separately
abbrev pub counted_where : Option End → CountedEnd
counted_where (Some end) = counted_as end
counted_where None = counted.Unknown

-- how an association that ends with this decision is counted
abbrev pub counted_by : Decision → CountedEnd
counted_by decision.Nothing = counted.Unknown
counted_by (decision.PduRefused head fault) = counted.AbortedByBox
counted_by (decision.RequestTooLong length) = counted.Rejected
counted_by (decision.RequestInvalid fault) = counted.AbortedByBox
counted_by (decision.RequestJudged answer.Accept) = counted.Unknown
counted_by (decision.RequestJudged (answer.Reject result source reason)) = counted.Rejected
counted_by (decision.Fragment head) = counted.Unknown
counted_by (decision.ContextRefused head) = counted.AbortedByBox
counted_by (decision.FragmentRefused head fault before) = counted.AbortedByBox
counted_by decision.BadPdv = counted.AbortedByBox
counted_by (decision.Leftover end) = counted.AbortedByBox
counted_by (decision.CommandRefused fault field) = counted.AbortedByBox
counted_by decision.DataDue = counted.Unknown
counted_by (decision.Replied status detail) = counted.Unknown
counted_by decision.Released = counted.Released
counted_by decision.Aborted = counted.AbortedByPeer

-- of the A-ABORT with which these bytes end, if they end with one, these are the source and the reason
abbrev pub IsEndOf : List ℕ → Abort → Type 0
IsEndOf bytes abort = (front : List ℕ) (source reason : ℕ) → bytes ≡ front ++ abort_text source reason → abort ≡ record { source = source; reason = reason }

-- an association that dcmbox aborts: the A-ABORT is the one at the end of the reply, and the cause is the decision
abbrev pub IsAbortedBy : Decision → List ℕ → Option End → Type 0
IsAbortedBy d reply (Some (ends.Aborted abort why)) = IsEndOf reply abort × (why ≡ d)
IsAbortedBy d reply other = Unit {0}
