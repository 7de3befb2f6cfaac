-- What is reported of the bytes that an association accepted: what it decided, if a part of a PDU is complete and the
-- association has not ended; how many stores were requested, and the command of the last. This product's own profile.
use Rattle.std.specs.Prelude.{ℕ, Bool, true, false, List, Option}
use Rattle.std.specs.Result.{result_ok}
use Rattle.decisions.specs.declared.decision.Decision.{Decision}
use Rattle.decisions.specs.declared.decision.Decision.TheVariants as decision
use Rattle.decisions.specs.declared.value_end.ValueEnd.{ValueEnd}
use Rattle.decisions.specs.declared.value_end.ValueEnd.TheVariants as ends
use Rattle.decisions.specs.ValueEnds.{value_end}
use Rattle.dimse.specs.Command.{CommandRecord}
use Rattle.dimse.specs.Reading.{command_in}
use Rattle.journal.specs.Outcomes.{one_more}
use Rattle.journal.specs.declared.outcome.Counts.{Counts}
use Rattle.journal.specs.declared.state.Phase.{Phase}
use Rattle.journal.specs.declared.state.Phase.TheVariants as phase

abbrev pub reported_in : Phase → Decision → Decision
reported_in phase.Over d = decision.Nothing
reported_in phase.Awaited d = d
reported_in phase.InRequest d = d
reported_in phase.Established d = d

abbrev pub reported_by : Bool → Phase → Decision → Decision
reported_by true p d = reported_in p d
reported_by false p d = decision.Nothing

abbrev pub asked_more : Counts → Counts
asked_more c = record c { asked = one_more c.asked }

abbrev pub asked_at : ValueEnd → Counts → Counts
asked_at ends.DataDue c = asked_more c
asked_at ends.Nothing c = c
asked_at (ends.Replied status detail) c = c

abbrev pub command_at : ValueEnd → List ℕ → Option CommandRecord → Option CommandRecord
command_at ends.DataDue set before = result_ok (command_in set)
command_at ends.Nothing set before = before
command_at (ends.Replied status detail) set before = before

-- the command of the last store after this decision: the one that this command set spells, when its data set is due
abbrev pub command_by : Decision → List ℕ → Option CommandRecord → Option CommandRecord
command_by d set before = command_at (value_end d) set before

-- the counts after this decision: a store is requested when its data set is due
abbrev pub asked_by : Decision → Counts → Counts
asked_by d c = asked_at (value_end d) c
