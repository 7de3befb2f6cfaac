use Rattle.engine.proofs.Public.{silent_sends_nothing, aborts_shortly}
use Rattle.engine.proofs.laws.other_inputs_send_little.Goals as goal

pub returns-clause-silent : goal.returns-clause-silent
returns-clause-silent c = silent_sends_nothing

pub returns-clause-abort : goal.returns-clause-abort
returns-clause-abort c = aborts_shortly
