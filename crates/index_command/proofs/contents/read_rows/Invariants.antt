-- The files so far, each with a row or a reason why it has none, and those after them are all files.
use Rattle.std.proofs.Common.{◌++◌, drop}
use Rattle.std.specs.Prelude.{IsPermutation}
use Rattle.index_command.specs.Sharing.{files_of}
use Rattle.index_command.proofs.contents.read_rows.Given as goal

abbrev pub invariant-loop-id : goal.invariant-loop-id
invariant-loop-id g l = IsPermutation l.fn.files.ids.items (files_of l.contents.rows.items l.contents.skipped.items ++ drop l.id-index l.fn.files.ids.items)
