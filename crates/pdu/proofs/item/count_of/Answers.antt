use Rattle.std.proofs.Common.{length, ap, arith}
use Rattle.pdu.proofs.FirstItemIsUnique.{items_few}
use Rattle.pdu.proofs.item.count_of.Goals as goal

pub overflow_add-count : goal.overflow_add-count
overflow_add-count c =
    let next = ap length c.in-Some.ensures.steps in
    omega (arith, items_few c.args.text.now, next, c.loop-item.invariant.few)
