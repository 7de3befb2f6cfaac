use Rattle.std.proofs.Common.{◌-◌, sym, length, arith}
use Rattle.element.proofs.LastZero.{zero_dropped, other_kept, none_kept}
use Rattle.element.proofs.values.without_last_zero.Goals as goal
use Rattle.element.proofs.values.without_last_zero.Goals.{else-size-gt0-via-then-size-gt0+else-value-size-eq0, else-size-gt0-via-else-size-gt0}

pub returns-then-value-size-eq0 : goal.returns-then-value-size-eq0
returns-then-value-size-eq0 c =
    sym (zero_dropped c.args.value.now (length c.args.value.now - 1) (omega arith) c.if-value-size-eq0.true)

pub returns-else-size-gt0 : goal.returns-else-size-gt0
returns-else-size-gt0 c =
    elim c.else-size-gt0.branch [
      | else-size-gt0-via-then-size-gt0+else-value-size-eq0 w ↦ sym (other_kept c.args.value.now (length c.args.value.now - 1) (omega arith) w.if-value-size-eq0.false)
      | else-size-gt0-via-else-size-gt0 w ↦ sym (none_kept c.args.value.now (omega arith))
    ]
