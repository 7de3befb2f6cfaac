use Rattle.std.proofs.Common.{◌-◌, length, reverse, slice_get, ap, ◌∙◌}
use Rattle.dicomdir.proofs.Trails.{climbed, goes_next}
use Rattle.dicomdir.proofs.links.climb.Goals as goal

pub returns-then-mark-ne0 : goal.returns-then-mark-ne0
returns-then-mark-ne0 g c = record {
  climbs = λ links marks.
      goes_next links (reverse c.args.trail.now.items) c.loop-mark.trail.items c.in-Some.mark.now
      (c.in-Some.ensures.value ∙ ap (λ z. slice_get z (length z - 1)) c.deref.ensures.value) c.if-mark-ne0.true (c.loop-mark.invariant links marks);
}

pub loop-mark-preserved : goal.loop-mark-preserved
loop-mark-preserved g c links marks =
    climbed links (reverse c.args.trail.now.items) c.loop-mark.trail.items c.leave_chain.new.trail.items c.in-Some.mark.now
    (c.in-Some.ensures.value ∙ ap (λ z. slice_get z (length z - 1)) c.deref.ensures.value) c.if-mark-ne0.false c.leave_chain.ensures.remaining c.leave_chain.ensures.fewer (c.loop-mark.invariant links marks)
