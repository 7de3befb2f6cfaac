use Rattle.std.proofs.Common.{length, reverse, refl, true, false, sym, ap, ◌∙◌, arith}
use Rattle.std.proofs.lemmas.List.{length-replicate, length-set}
use Rattle.std.proofs.lemmas.Result.{err_from_is_err_and}
use Rattle.dicomdir.specs.DirFault.{links_of}
use Rattle.dicomdir.specs.machine.Trail.{FailsToFollow, mark_of}
use Rattle.dicomdir.proofs.Trails.{push_reverse}
use Rattle.dicomdir.proofs.Following.{both_err, starts, turn, stops, ends_elsewhere, ends_there, nodes_of_all, none_is, fault_fails}
use Rattle.dicomdir.proofs.links.follow.Goals as goal

pub loop-pending-init : goal.loop-pending-init
loop-pending-init g c = record {
  size = ap length c.in_ok-reached.ensures.flags ∙ length-replicate (length c.args.entries.now) false;
  following = λ start es records read.
      rw c.new-trail.ensures.items
      (starts _ _ start es c.args.root.now _ _ _ read c.in_ok-reached.ensures.flags (c.first_step-pending.ensures (links_of start es records) (sym read.first)));
}

-- a fault of the next offset
pub returns-in_err-at-clause-fails : goal.returns-in_err-at-clause-fails
returns-in_err-at-clause-fails g c =
    let f = c.in_err-at.field-0.0 in
    let links = c.in_err-at.ensures.links in
    let p = err_from_is_err_and c.from_residual-in_err-at.result c.from_residual-in_err-at.ensures.1 in
    let faults = rw (c.as_slice.ensures.value, c.as_slice-in-Some.ensures.value) at c.in_err-at.ensures.fault in
    rw (p.1, p.2) (fault_fails c.args.root.now c.args.entries.now f links.tag (λ is. absurd (omega (arith, is, links.to)))
    (λ start es records read.
    let at = rw c.in-Some.is at (c.loop-pending.invariant.following start es records read) in
    stops start es _ _ _ _ _ _ _ _ (record { number = f.number; offset = f.offset }) at (faults (links_of start es records) at.reached read.first_position at.flagged at.step)))

pub loop-pending-preserved : goal.loop-pending-preserved
loop-pending-preserved g c =
    let finds = rw (c.as_slice.ensures.value, c.as_slice-in-Some.ensures.value) at c.in_ok-at.ensures.good in
    record {
      size = length-set c.loop-pending.reached.items c.in_ok-at.at true ∙ c.loop-pending.invariant.size;
      following = λ start es records read.
          turn _ _ _ _ (reverse c.reach.new.trail.items) _ c.in-Some.step _ _ _ _ _ _ c.index-entries-at.result c.in_ok-at.at
          (rw c.in-Some.is at (c.loop-pending.invariant.following start es records read))
          finds c.index-entries-at.is c.in_ok-at.ensures.within (c.in_ok-reach.ensures.node refl)
          (ap reverse (c.in_ok-reach.ensures.mark refl) ∙ push_reverse c.loop-pending.trail.items (mark_of c.index-entries-at.result c.in-Some.step))
          c.last_of_root-last.ensures
          c.step_after-pending.ensures.continues;
    }

pub returns-then-from-last-clause-fails : goal.returns-then-from-last-clause-fails
returns-then-from-last-clause-fails g c =
    let none = none_is c.loop-pending.pending c.in_default.not-Some in
    rw c.at.ensures (fault_fails c.args.root.now c.args.entries.now _ refl (omega arith)
    (λ start es records read.
    ends_elsewhere _ _ start es records _ _ _ _ _ read (rw none at (c.loop-pending.invariant.following start es records read)) (λ same. c.if-from-last.true (c.from.ensures ∙ same))))

pub returns-clause-good : goal.returns-clause-good
returns-clause-good g c ok start es records read =
    let none = none_is c.loop-pending.pending c.in_default.not-Some in
    let at = rw none at (c.loop-pending.invariant.following start es records read) in (
      ends_there _ _ start es records _ _ _ _ _ read at (sym c.from.ensures ∙ c.if-from-last.false)
          ∙ c.all_reached.ensures.good ok records at.reached (rw c.as_slice-2.ensures.value at.flagged),
      nodes_of_all _ _ _ _ _ _ _ at,
    )

pub returns-clause-fails : goal.returns-clause-fails
returns-clause-fails g c =
    let none = none_is c.loop-pending.pending c.in_default.not-Some in
    both_err _ _ (FailsToFollow c.args.root.now c.args.entries.now) c.all_reached.result c.all_reached.ensures.fault c.all_reached.ensures.links (λ f fault links.
    fault_fails c.args.root.now c.args.entries.now f links.tag (λ is. absurd (omega (arith, is, links.number))) (λ start es records read.
    let at = rw none at (c.loop-pending.invariant.following start es records read) in
    ends_there _ _ start es records _ _ _ _ _ read at (sym c.from.ensures ∙ c.if-from-last.false) ∙ fault records at.reached (rw c.as_slice-2.ensures.value at.flagged)))
