use Rattle.std.proofs.Common.{◌≡◌, ◌∙◌, ◌≤◌, ◌-◌, length, take, drop, arith}
use Rattle.std.proofs.lemmas.List.{length-drop, length-take, length-append}
use Rattle.sending.proofs.RoomIsFilled.{filled_on}
use Rattle.sending.proofs.stream.fill.Goals as goal

pub loop-at-preserved : goal.loop-at-preserved
loop-at-preserved g c =
    let at = c.loop-at.at in
    let bound : c.in_ok-count.count ≤ length c.read.new.room = c.in_ok-count.ensures.bound.0 in
    let same : length c.read.new.room ≡ length (take (length c.loop-at.room - c.loop-at.at) (drop c.loop-at.at c.loop-at.room)) = c.read.auto.room in
    record {
      size = simp (length-append, length-take, length-drop) (omega (arith, same, length-take (length c.loop-at.room - c.loop-at.at) (drop c.loop-at.at c.loop-at.room), length-drop c.loop-at.at c.loop-at.room, c.loop-at.invariant.within, c.loop-at.invariant.size));
      within = simp (length-append, length-take) (omega (arith, bound, c.loop-at.invariant.within));
      read = filled_on _ _ _ at c.in_ok-count.count c.loop-at.room c.read.new.room _ c.loop-at.invariant.within bound c.loop-at.invariant.read c.in_ok-count.ensures.traced;
      same = c.read.ensures.same_written ∙ c.loop-at.invariant.same;
    }
