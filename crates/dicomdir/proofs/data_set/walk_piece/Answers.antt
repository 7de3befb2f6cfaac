use Rattle.std.proofs.Common.{ap, arith}
use Rattle.dicomdir.specs.machine.Faults.{refusal_of}
use Rattle.dicomdir.proofs.WalksEndOrFail.{walks_first, walks_next, walks_whole, walks_fails}
use Rattle.dicomdir.proofs.data_set.walk_piece.Goals as goal
use Rattle.std.proofs.lemmas.Grind.{common_steps}

pub loop-rest-init : goal.loop-rest-init
loop-rest-init g c = walks_first c.args.walker.now c.args.piece.now c.requires.going.2

pub loop-rest-preserved : goal.loop-rest-preserved
loop-rest-preserved g c = grind (arith, common_steps, walks_next c.args.walker.now c.loop-rest.walker c.step-count.new.self c.args.piece.now c.loop-rest.rest.now c.step-count.result.0 c.step-count.result.1 c.requires.going c.loop-rest.invariant c.step-count.ensures.consumed c.step-count.ensures.stands c.step-count.ensures.answers c.step-count.ensures.syntax c.step-count.ensures.limits c.in_default.not-Refused)

pub returns-in-Refused-clause-fails : goal.returns-in-Refused-clause-fails
returns-in-Refused-clause-fails g c = grind (arith, common_steps, walks_fails c.args.walker.now c.loop-rest.walker c.args.piece.now c.loop-rest.rest.now c.step-count.result.0 c.step-count.result.1 c.in-Refused.fault c.loop-rest.invariant c.step-count.ensures.consumed c.step-count.ensures.answers (ap refusal_of c.in-Refused.is))

pub returns-clause-along : goal.returns-clause-along
returns-clause-along g c = walks_whole c.args.walker.now c.loop-rest.walker c.args.piece.now c.loop-rest.rest.now c.loop-rest.invariant c.loop-rest-test.ensures
