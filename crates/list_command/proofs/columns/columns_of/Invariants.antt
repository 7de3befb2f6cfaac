-- The values of the columns so far.
use Rattle.std.proofs.Common.{◌≡◌, take}
use Rattle.list_command.specs.Tree.{texts_of}
use Rattle.list_command.specs.Values.{columns_of}
use Rattle.list_command.proofs.columns.columns_of.Given as goal

abbrev pub invariant-loop-column : goal.invariant-loop-column
invariant-loop-column g l = texts_of l.values.items ≡ columns_of l.keys (take l.column-index l.columns)
