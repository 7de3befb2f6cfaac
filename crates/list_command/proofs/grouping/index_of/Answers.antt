use Rattle.list_command.proofs.FilesAreKept.{found_or_none}
use Rattle.list_command.proofs.grouping.index_of.Goals as goal

pub returns-clause-at : goal.returns-clause-at
returns-clause-at g c = found_or_none c.args.uid.now c.args.all.now.entries c.get_index_of.result c.get_index_of.ensures.index
