use Rattle.std.proofs.Common.{sym, ◌∙◌}
use Rattle.dicomdir_writing.specs.machine.RowRecords.{says_of}
use Rattle.arrayvec.specs.ArrayVec.{array_vec_len}
use Rattle.dicomdir_writing.proofs.RecordIsItsElements.{fields_more, fields_skip, room_more, room_skip}
use Rattle.dicomdir_writing.proofs.record_bytes.put_rules.Goals.{then-has, else-has}
use Rattle.dicomdir_writing.proofs.record_bytes.put_rules.Goals as goal

pub loop-rule-preserved : goal.loop-rule-preserved
loop-rule-preserved g c = elim c.if-has.branch [
  | then-has w ↦ rw w.out-is (record {
    items = fields_more c.args.entry.now.level c.args.rules.now (says_of c.args.entry.now) c.loop-rule.out.items w.put_rule.new.out.items _ c.loop-rule.rule-index _ c.loop-rule-test.true
        (sym c.has.ensures ∙ w.if-has.true) w.put_rule.ensures.items c.loop-rule.invariant.items;
    bound = room_more c.args.entry.now.level c.args.rules.now c.loop-rule.rule-index _ (array_vec_len c.loop-rule.out) (array_vec_len w.put_rule.new.out) _ c.loop-rule-test.true
        (sym c.has.ensures ∙ w.if-has.true) w.put_rule.ensures.bound c.loop-rule.invariant.bound;
  })
  | else-has w ↦ rw w.out-is (record {
    items = fields_skip c.args.entry.now.level c.args.rules.now (says_of c.args.entry.now) c.loop-rule.out.items _ c.loop-rule.rule-index _ c.loop-rule-test.true
        (sym c.has.ensures ∙ w.if-has.false) c.loop-rule.invariant.items;
    bound = room_skip c.args.entry.now.level c.args.rules.now c.loop-rule.rule-index _ (array_vec_len c.loop-rule.out) _ c.loop-rule-test.true
        (sym c.has.ensures ∙ w.if-has.false) c.loop-rule.invariant.bound;
  })
]
