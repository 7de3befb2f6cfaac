use Rattle.std.proofs.Common.{◌≡◌, ◌+◌, ◌||◌, suc, not, Some, get_or, drop, true, false, inl, inr, Bool, sym, ap, ◌∙◌, arith, if◌then◌else◌}
use Rattle.std.proofs.lemmas.Bool.{cond-true}
use Rattle.dicomdir.specs.DirFault.{fault, unreached_fault}
use Rattle.dicomdir.proofs.Trails.{remaining_at, passes}
use Rattle.dicomdir.proofs.links.all_reached.Goals as goal
use Rattle.dicomdir.proofs.links.all_reached.Goals.{else-entry-via-then-entry+else-not-reached-at, else-entry-via-else-entry}

pub returns-then-not-reached-at-clause-fault : goal.returns-then-not-reached-at-clause-fault
returns-then-not-reached-at-clause-fault c records positions flagged =
    let e = c.index-entries-at.result in
    sym (c.loop-at.invariant records positions flagged)
    ∙ (remaining_at c.args.entries.now c.args.reached.now records positions e c.loop-at.at flagged c.index-entries-at.is c.loop-at-test.true
    ∙ ((λ i. if not (c.if-entry.true i) || c.if-not-reached-at.true i then unreached_fault positions (drop (suc c.loop-at.at) records) else fault 63 e.offset)
    ∙ ap (λ f. Some (record { number = f.number; offset = f.offset })) (sym c.at.ensures)))

pub loop-at-preserved : goal.loop-at-preserved
loop-at-preserved c records positions flagged =
    let e = c.index-entries-at.result in
    let flag : Bool = get_or c.args.reached.now c.loop-at.at false in
    let passed : (not e.in_use || flag) ≡ true = elim c.else-entry.branch [
      | else-entry-via-then-entry+else-not-reached-at w ↦ passes e.in_use flag (inr w.if-not-reached-at.false)
      | else-entry-via-else-entry w ↦ passes e.in_use flag (inl w.if-entry.false)
    ] in
    let next : c.loop-at.at + 1 ≡ suc c.loop-at.at = omega arith in
    ap (λ z. unreached_fault positions (drop z records)) next
    ∙ (sym (remaining_at c.args.entries.now c.args.reached.now records positions e c.loop-at.at flagged c.index-entries-at.is c.loop-at-test.true
    ∙ cond-true (not e.in_use || flag) (unreached_fault positions (drop (suc c.loop-at.at) records)) (fault 63 e.offset) passed)
    ∙ c.loop-at.invariant records positions flagged)
