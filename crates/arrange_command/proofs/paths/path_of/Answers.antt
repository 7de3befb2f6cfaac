use Rattle.std.proofs.Common.{[]}
use Rattle.keyed_files.specs.Keys.{file_value}
use Rattle.arrange_command.proofs.PathsStayInTheTree.{names_only}
use Rattle.arrange_command.proofs.paths.path_of.Goals as goal

pub returns-clause-names : goal.returns-clause-names
returns-clause-names g c = λ is_ok. names_only (file_value c.args.keys.now) [] c.args.parts.now
