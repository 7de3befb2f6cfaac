use Rattle.list_command.proofs.FilesAreKept.{added}
use Rattle.list_command.proofs.grouping.add_new.Goals as goal

pub returns-clause-at : goal.returns-clause-at
returns-clause-at g c = (added c.args.uid.now c.in_ok-from_slice.field-0 c.args.new c.args.all.now.entries c.insert_full.new.self.entries c.in_ok-index.index c.in_ok-from_slice.ensures.items c.requires.absent c.in_ok-index.ensures.index c.in_ok-index.ensures.entries).0

pub returns-clause-added : goal.returns-clause-added
returns-clause-added g c = (added c.args.uid.now c.in_ok-from_slice.field-0 c.args.new c.args.all.now.entries c.insert_full.new.self.entries c.in_ok-index.index c.in_ok-from_slice.ensures.items c.requires.absent c.in_ok-index.ensures.index c.in_ok-index.ensures.entries).1
