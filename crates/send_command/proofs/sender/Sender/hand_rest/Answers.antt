-- A file after those so far.
use Rattle.send_command.specs.Running.{none, next}
use Rattle.send_command.proofs.sender.Sender.hand_rest.Goals as goal

pub loop-index-init : goal.loop-index-init
loop-index-init g c = none

pub returns-then-not-hand : goal.returns-then-not-hand
returns-then-not-hand g c = record { handed = next c.loop-index.invariant c.hand.ensures.handed }

pub loop-index-preserved : goal.loop-index-preserved
loop-index-preserved g c = next c.loop-index.invariant c.hand.ensures.handed
