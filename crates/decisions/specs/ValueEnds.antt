-- What the end of a presentation data value has decided. This product's own profile.
use Rattle.decisions.specs.declared.decision.Decision.{Decision}
use Rattle.decisions.specs.declared.decision.Decision.TheVariants as decision
use Rattle.decisions.specs.declared.value_end.ValueEnd.{ValueEnd}
use Rattle.decisions.specs.declared.value_end.ValueEnd.TheVariants as end

-- what the end of a value decided, if that was the last decision, or if the bytes after the value were found to be no
-- head of another value
abbrev pub value_end : Decision → ValueEnd
value_end decision.DataDue = end.DataDue
value_end (decision.Replied status detail) = end.Replied status detail
value_end (decision.Leftover before) = before
value_end other = end.Nothing
