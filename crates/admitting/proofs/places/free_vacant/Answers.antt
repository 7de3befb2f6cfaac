-- One place more was looked at.
use Rattle.std.proofs.Common.{◌∙◌, arith, sym}
use Rattle.admitting.proofs.VacantSlotsAreFreed.{freed_next, kept_next, none_next}
use Rattle.admitting.proofs.places.free_vacant.Goals as goal
use Rattle.admitting.proofs.places.free_vacant.Goals.{then-slot-len+then-not-is_occupied, else-slot-len, else-slot-len-via-then-slot-len+else-not-is_occupied, else-slot-len-via-else-slot-len}

pub loop-slot-preserved : goal.loop-slot-preserved
loop-slot-preserved g c =
    elim c.if-slot-len.branch [
      | then-slot-len+then-not-is_occupied w ↦
          freed_next _ c.args.places.now c.args.slots.now c.loop-slot.slots c.loop-slot.slot _ c.index-places-slot.result (omega arith) c.loop-slot-test.true c.index-places-slot.is c.loop-slot.invariant c.if-slot-len.slots
          (sym w.is_occupied.ensures ∙ w.if-not-is_occupied.true) (rw w.slots-is w.leave.ensures.remaining) (rw w.slots-is w.leave.ensures.same_limit)
      | else-slot-len w ↦ elim w.else-slot-len.branch [
        | else-slot-len-via-then-slot-len+else-not-is_occupied v ↦
            rw w.slots-is (kept_next _ c.args.places.now c.args.slots.now c.loop-slot.slots c.loop-slot.slot _ c.index-places-slot.result (omega arith) c.loop-slot-test.true c.index-places-slot.is c.loop-slot.invariant
            (sym v.is_occupied.ensures ∙ v.if-not-is_occupied.false))
        | else-slot-len-via-else-slot-len v ↦
            rw w.slots-is (none_next _ c.args.places.now c.args.slots.now c.loop-slot.slots c.loop-slot.slot _ c.index-places-slot.result (omega arith) c.loop-slot-test.true c.index-places-slot.is c.loop-slot.invariant
            (omega (arith, c.len.ensures, v.if-slot-len.false)))
      ]
    ]
