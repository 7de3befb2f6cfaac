use Rattle.std.proofs.Common.{sym, ◌∙◌}
use Rattle.dicomdir_writing.specs.Keys.{key_values}
use Rattle.sequence.specs.Consumed.{reported_by}
use Rattle.dicomdir_writing.proofs.RowLaws.{values_more, values_skip}
use Rattle.dicomdir_writing.proofs.row_reading.keys_of.Goals.{then-has+in_ok-copy_key, else-has}
use Rattle.dicomdir_writing.proofs.row_reading.keys_of.Goals as goal

pub loop-rule-preserved : goal.loop-rule-preserved
loop-rule-preserved g c = elim c.if-has.branch [
  | then-has+in_ok-copy_key w ↦ rw w.copied-is
      (values_more c.args.keys c.args.rules.now (reported_by c.args.walker.now).kept (key_values c.loop-rule.copied) (key_values w.copy_key.new.keys) _ c.loop-rule.rule-index _ c.loop-rule-test.true
      (sym c.has.ensures ∙ w.if-has.true) w.in_ok-copy_key.ensures.added c.loop-rule.invariant)
  | else-has w ↦ rw w.copied-is
      (values_skip c.args.keys c.args.rules.now (reported_by c.args.walker.now).kept (key_values c.loop-rule.copied) _ c.loop-rule.rule-index _ c.loop-rule-test.true
      (sym c.has.ensures ∙ w.if-has.false) c.loop-rule.invariant)
]
