use Rattle.std.proofs.Common.{arith}
use Rattle.std.proofs.lemmas.Result.{err_from_is_err_and}
use Rattle.dicomdir_writing.proofs.TreeIsLaidDown.{image_laid, image_stops}
use Rattle.dicomdir_writing.proofs.build_plan.lay_images.Goals as goal
use Rattle.std.proofs.lemmas.Grind.{common_steps}

pub returns-in_err-start-clause-stops : goal.returns-in_err-start-clause-stops
returns-in_err-start-clause-stops g c = grind (arith, common_steps, err_from_is_err_and c.from_residual.result c.from_residual.ensures.1, image_stops c.args.most c.args.rows.now c.loop-at.at c.index-rows-at.result c.args.plan.now.entries.items c.loop-at.plan.entries.items c.args.plan.now.size c.loop-at.plan.size c.loop-at.chain.first c.loop-at.chain.last c.in_err-start.field-0.0 c.loop-at-test.true c.loop-at.invariant.within c.index-rows-at.is c.loop-at.invariant.laid c.in_err-start.ensures.stops)

pub loop-at-preserved : goal.loop-at-preserved
loop-at-preserved g c = grind (arith, common_steps, image_laid c.args.rows.now c.loop-at.at c.index-rows-at.result c.args.plan.now.entries.items c.loop-at.plan.entries.items c.add.new.self.entries.items c.args.plan.now.size c.loop-at.plan.size c.add.new.self.size c.loop-at.chain.first c.loop-at.chain.last c.in_ok-start.start c.after-chain.result.first c.after-chain.result.last c.loop-at-test.true c.loop-at.invariant.within c.index-rows-at.is c.loop-at.invariant.laid c.in_ok-start.ensures.added c.in_ok-start.ensures.size c.in_ok-start.ensures.start c.after-chain.ensures.first c.after-chain.ensures.last)
