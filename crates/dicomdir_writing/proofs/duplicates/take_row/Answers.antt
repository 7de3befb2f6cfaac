use Rattle.dicomdir_writing.specs.TreeOf.{rows_at}
use Rattle.dicomdir_writing.specs.machine.FirstSeen.{texts}
use Rattle.dicomdir_writing.proofs.GroupsKeepSeenOrder.{duplicate_remaining}
use Rattle.dicomdir_writing.proofs.duplicates.take_row.Goals as goal

pub returns : goal.returns
returns g c =
    duplicate_remaining c.args.at c.args.row.now c.instance.result.now (texts c.args.seen.now.keys) (texts c.see.new.seen.keys) _ c.in_ok-is_new.is_new (rows_at c.args.kept.now.rows.items) c.args.kept.now.duplicates.items c.push-2.new.self.items
    c.instance.ensures.value c.in_ok-is_new.ensures.sees c.if-is_new.false c.in_ok-push-2.ensures.items
