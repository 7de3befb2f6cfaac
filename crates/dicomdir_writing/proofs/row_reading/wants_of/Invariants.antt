use Rattle.std.proofs.Common.{◌≡◌, ◌≤◌, ◌++◌, drop}
use Rattle.std.specs.Prelude.{filter}
use Rattle.arrayvec.specs.ArrayVec.{array_vec_len}
use Rattle.dicomdir_writing.specs.RecordTable.{is_read}
use Rattle.dicomdir_writing.specs.RowOf.{row_wants}
use Rattle.dicomdir_writing.proofs.row_reading.wants_of.Given as goal

abbrev pub invariant-loop-rule : goal.invariant-loop-rule
invariant-loop-rule l = record {
  wants : l.wants.items ++ row_wants (filter (is_read l.keys) (drop l.rule-index l.rules)) ≡ row_wants (filter (is_read l.keys) l.rules);
  few : array_vec_len l.wants ≤ l.rule-index;
}
