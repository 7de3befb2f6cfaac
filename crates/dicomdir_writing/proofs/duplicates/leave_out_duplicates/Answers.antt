use Rattle.std.proofs.Common.{arith}
use Rattle.dicomdir_writing.specs.TreeOf.{rows_at}
use Rattle.dicomdir_writing.specs.Keys.{IsRow}
use Rattle.dicomdir_writing.specs.machine.FirstSeen.{texts}
use Rattle.dicomdir_writing.proofs.GroupsKeepSeenOrder.{leaves_next, leaves_all, all_more, all_consumed}
use Rattle.dicomdir_writing.proofs.duplicates.leave_out_duplicates.Goals as goal
use Rattle.std.proofs.lemmas.Grind.{common_steps}

pub loop-at-preserved : goal.loop-at-preserved
loop-at-preserved g c = grind (arith, common_steps, leaves_next c.args.rows.now c.loop-at.at c.index-rows-at.result (texts c.loop-at.seen.keys) (texts c.take_row.new.seen.keys) (rows_at c.loop-at.kept.rows.items) (rows_at c.take_row.new.kept.rows.items) c.loop-at.kept.duplicates.items c.take_row.new.kept.duplicates.items c.loop-at-test.true c.index-rows-at.is c.loop-at.invariant.leaves c.in_ok-take_row.ensures, all_more IsRow c.args.rows.now c.loop-at.at c.index-rows-at.result c.loop-at-test.true c.index-rows-at.is c.keeps.ensures c.loop-at.invariant.valid)

pub returns-clause-rows : goal.returns-clause-rows
returns-clause-rows g c = (leaves_all c.args.rows.now c.loop-at.at _ _ _ c.loop-at-test.false c.loop-at.invariant.leaves).0

pub returns-clause-duplicates : goal.returns-clause-duplicates
returns-clause-duplicates g c = (leaves_all c.args.rows.now c.loop-at.at _ _ _ c.loop-at-test.false c.loop-at.invariant.leaves).1

pub returns-clause-valid : goal.returns-clause-valid
returns-clause-valid g c = all_consumed IsRow c.args.rows.now c.loop-at.at c.loop-at-test.false c.loop-at.invariant.valid
