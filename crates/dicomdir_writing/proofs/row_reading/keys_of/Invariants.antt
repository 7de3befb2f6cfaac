use Rattle.std.proofs.Common.{◌≡◌, ◌++◌, drop}
use Rattle.std.specs.Prelude.{filter}
use Rattle.sequence.specs.Consumed.{reported_by}
use Rattle.dicomdir_writing.specs.Keys.{key_values}
use Rattle.dicomdir_writing.specs.RecordTable.{is_read}
use Rattle.dicomdir_writing.specs.RowOf.{values_for}
use Rattle.dicomdir_writing.proofs.row_reading.keys_of.Given as goal

abbrev pub invariant-loop-rule : goal.invariant-loop-rule
invariant-loop-rule g l =
    key_values l.copied ++ values_for (filter (is_read l.keys) (drop l.rule-index l.rules)) (reported_by l.walker).kept
    ≡ values_for (filter (is_read l.keys) l.rules) (reported_by l.walker).kept
