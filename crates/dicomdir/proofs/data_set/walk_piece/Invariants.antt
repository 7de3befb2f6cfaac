use Rattle.std.proofs.Common.{length}
use Rattle.dicomdir.proofs.WalksEndOrFail.{Walks}
use Rattle.dicomdir.proofs.data_set.walk_piece.Given as goal

abbrev pub invariant-loop-rest : goal.invariant-loop-rest
invariant-loop-rest g l = Walks l.fn.walker l.walker l.piece l.rest

abbrev pub decreases-loop-rest : goal.decreases-loop-rest
decreases-loop-rest g l = length l.rest
