use Rattle.std.proofs.Common.{◌≡◌, ◌≤◌, ◌+◌, ◌++◌, drop}
use Rattle.arrayvec.specs.ArrayVec.{array_vec_len}
use Rattle.dicomdir_writing.specs.Record.{spelled, fields}
use Rattle.dicomdir_writing.specs.machine.RowRecords.{says_of, rules_room}
use Rattle.dicomdir_writing.proofs.record_bytes.put_rules.Given as goal

abbrev pub invariant-loop-rule : goal.invariant-loop-rule
invariant-loop-rule g l = record {
  items : l.out.items ++ spelled (fields l.entry.level (drop l.rule-index l.rules) (says_of l.entry)) ≡ l.fn.out.items ++ spelled (fields l.entry.level l.rules (says_of l.entry));
  bound : array_vec_len l.out + rules_room l.entry.level (drop l.rule-index l.rules) ≤ array_vec_len l.fn.out + rules_room l.entry.level l.rules;
}
