use Rattle.std.proofs.Common.{length}
use Rattle.dimse.specs.Reply.{fragments, command_pdus}
use Rattle.dimse.proofs.SetIsSentWhole.{Sending}
use Rattle.dimse.proofs.response.write_fragments.Given as goal

abbrev pub invariant-loop-rest : goal.invariant-loop-rest
invariant-loop-rest g l = Sending (g.W.Wire.line l.initial.wire) (g.W.Wire.line l.wire) l.context l.size (command_pdus l.context (fragments l.size l.bytes)) l.rest

abbrev pub decreases-loop-rest : goal.decreases-loop-rest
decreases-loop-rest g l = length l.rest
