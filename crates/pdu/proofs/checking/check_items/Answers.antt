use Rattle.std.proofs.Common.{[], refl}
use Rattle.pdu.specs.Refusal.{items_fault}
use Rattle.pdu.proofs.checking.check_items.Goals as goal

pub loop-item-init : goal.loop-item-init
unfolding items_fault
loop-item-init c = record { before = []; knows = c.new-so_far.ensures; same = refl }
