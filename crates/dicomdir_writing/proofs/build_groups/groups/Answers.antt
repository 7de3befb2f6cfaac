use Rattle.std.proofs.Common.{add-one, arith}
use Rattle.dicomdir_writing.specs.TreeOf.{row_groups, key_for}
use Rattle.dicomdir_writing.specs.machine.FirstSeen.{texts}
use Rattle.dicomdir_writing.proofs.GroupsKeepSeenOrder.{as_many, step, finished}
use Rattle.dicomdir_writing.proofs.build_groups.groups.Goals as goal

pub put_by_key-requires : goal.put_by_key-requires
put_by_key-requires g c = as_many _ _ _ _ c.loop-row.invariant

pub loop-row-preserved : goal.loop-row-preserved
loop-row-preserved g c =
    rw add-one
    (step (key_for c.args.level) c.args.rows.now c.loop-row.row-index c.row-item.result c.key_of.result.now (texts c.loop-row.seen.keys) (texts c.put_by_key.new.seen.keys)
    (row_groups c.loop-row.groups.items) (row_groups c.put_by_key.new.groups.items) c.loop-row-test.true c.row-item.is c.key_of.ensures c.loop-row.invariant c.in_ok-put_by_key.ensures)

pub returns : goal.returns
returns g c = finished (key_for c.args.level) c.args.rows.now c.loop-row.row-index _ _ (omega (arith, c.loop-row-test.false)) c.loop-row.invariant
