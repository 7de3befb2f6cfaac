-- What `send` counts of files. This product's own profile.
use Rattle.std.specs.Prelude.{ℕ, ◌&&◌, nat_eq, if◌then◌else◌}
use Rattle.inspection.specs.declared.outcome.Outcome.{Outcome}
use Rattle.inspection.specs.declared.outcome.Outcome.TheVariants as outcomes
use Rattle.keyed_files.specs.Counting.{counted_more}
use Rattle.sending.specs.Sending.{is_filed}
use Rattle.sending.specs.declared.handing.Handed.{Handed}
use Rattle.sending.specs.declared.handing.Handed.TheVariants.{Faulty, Odd, Unread, Changed, Unaccepted, Answered, Removed, Kept, SetAside, NotSetAside}
use Rattle.sending.specs.declared.refusal.Refusal.{Refusal}
use Rattle.sending.specs.declared.refusal.Refusal.TheVariants.{Status, NoContext}
use Rattle.send_command.specs.declared.counts.SendCounts.{SendCounts}

abbrev pub no_counts : SendCounts
no_counts = record { sent = 0; warned = 0; refused = 0; left_out = 0; removed = 0; set_aside = 0; kept = 0; remaining = 0 }

abbrev pub with_left_out : SendCounts → SendCounts
with_left_out counts = record counts { left_out = counted_more counts.left_out }

abbrev pub with_refused : SendCounts → SendCounts
with_refused counts = record counts { refused = counted_more counts.refused }

-- the counts after one more file was filed with this status, a warning if it is not 0
abbrev pub with_filed : ℕ → SendCounts → SendCounts
with_filed status counts = record counts {
  sent = counted_more counts.sent;
  warned = if nat_eq status 0 then counts.warned else counted_more counts.warned;
}

-- the counts after a response with this status
abbrev pub with_status : ℕ → SendCounts → SendCounts
with_status status counts = if is_filed status then with_filed status counts else with_refused counts

-- the counts after the archive refused a file for good: it was sent, or no presentation context is accepted for it
abbrev pub with_refusal : Refusal → SendCounts → SendCounts
with_refusal (Status status) counts = with_refused counts
with_refusal NoContext counts = with_left_out counts

-- the counts after this was done with a file
abbrev pub after_handed : Handed → SendCounts → SendCounts
after_handed (Faulty fault) counts = with_left_out counts
after_handed Odd counts = with_left_out counts
after_handed (Unread error) counts = with_left_out counts
after_handed Changed counts = with_left_out counts
after_handed Unaccepted counts = with_left_out counts
after_handed (Answered status) counts = with_status status counts
after_handed (Removed status) counts = with_status status (record counts { removed = counted_more counts.removed })
after_handed (Kept status error) counts = with_status status (record counts { kept = counted_more counts.kept })
after_handed (SetAside refusal) counts = with_refusal refusal (record counts { set_aside = counted_more counts.set_aside })
after_handed (NotSetAside refusal error) counts = with_refusal refusal counts

-- no file was refused or left out, none stays that was to be removed, and none remains
abbrev pub outcome_of : SendCounts → Outcome
outcome_of counts =
    if nat_eq counts.refused 0 && (nat_eq counts.left_out 0 && (nat_eq counts.kept 0 && nat_eq counts.remaining 0)) then outcomes.Good else outcomes.Faulty
