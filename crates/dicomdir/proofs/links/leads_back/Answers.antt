use Rattle.std.proofs.Common.{◌<◌, ◌-◌, length, get_or, false, ◌∙◌, arith}
use Rattle.std.proofs.lemmas.List.{get_or_default}
use Rattle.dicomdir.specs.declared.links.Mark.{Mark}
use Rattle.dicomdir.proofs.Trails.{looks_found, looks_here, looks_none}
use Rattle.dicomdir.proofs.links.leads_back.Goals as goal

pub returns-then-mark-from : goal.returns-then-mark-from
returns-then-mark-from c =
    let m : Mark = get_or c.args.trail.now (c.loop-at.at - 1) (record { offset = 0; next = 0; begins = false; level = 0; shown = false }) in
    let inside : c.loop-at.at - 1 < length c.args.trail.now = omega (arith, c.loop-at-test.true, c.loop-at.invariant.within) in
    looks_found c.args.link c.loop-at.in_chain c.loop-at.is_above c.args.trail.now c.loop-at.at m c.loop-at-test.true c.loop-at.invariant.within
    (get_or_default c.args.trail.now (c.loop-at.at - 1) _ m inside)
    (looks_here c.loop-at.in_chain c.loop-at.is_above m.offset c.args.link c.if-is_above.either (c.if-mark-from.true ∙ c.from.ensures))
    c.loop-at.invariant.remaining

pub returns : goal.returns
returns c = looks_none c.args.link c.loop-at.in_chain c.loop-at.is_above c.args.trail.now c.loop-at.at c.loop-at-test.false c.loop-at.invariant.remaining
