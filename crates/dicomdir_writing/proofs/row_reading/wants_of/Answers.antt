use Rattle.std.proofs.Common.{sym, ◌∙◌, arith}
use Rattle.dicomdir_writing.proofs.RowLaws.{wants_more, wants_skip}
use Rattle.dicomdir_writing.proofs.row_reading.wants_of.Goals.{then-has, else-has}
use Rattle.dicomdir_writing.proofs.row_reading.wants_of.Goals as goal

pub loop-rule-preserved : goal.loop-rule-preserved
loop-rule-preserved c = elim c.if-has.branch [
  | then-has w ↦ rw w.wants-is (record {
    wants = wants_more c.args.keys c.args.rules.now c.loop-rule.wants.items w.push.new.self.items _ c.loop-rule.rule-index _ c.loop-rule-test.true
        (sym c.has.ensures ∙ w.if-has.true) w.push.ensures.items c.loop-rule.invariant.wants;
    few = let len = w.push.ensures.len in let few = c.loop-rule.invariant.few in omega (arith, len, few);
  })
  | else-has w ↦ rw w.wants-is (record {
    wants = wants_skip c.args.keys c.args.rules.now c.loop-rule.wants.items _ c.loop-rule.rule-index _ c.loop-rule-test.true
        (sym c.has.ensures ∙ w.if-has.false) c.loop-rule.invariant.wants;
    few = let few = c.loop-rule.invariant.few in omega (arith, few);
  })
]
