-- The files so far were handed over or left out, one after the other.
use Rattle.sending.specs.Handing.{state_of}
use Rattle.send_command.specs.Running.{HandsAll}
use Rattle.send_command.proofs.sender.Sender.hand_rest.Given as goal

abbrev pub invariant-loop-index : goal.invariant-loop-index
invariant-loop-index g l = HandsAll (state_of l.fn.self.removals l.fn.association) (state_of l.self.removals l.association)
