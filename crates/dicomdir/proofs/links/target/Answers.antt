use Rattle.std.proofs.Common.{reverse, true, false, sym, arith}
use Rattle.dicomdir.proofs.Trails.{old_target, unfit_target, good_target}
use Rattle.dicomdir.proofs.links.target.Goals as goal
use Rattle.std.proofs.lemmas.Grind.{common_steps}

pub returns-then-leads_back-clause-fault : goal.returns-then-leads_back-clause-fault
returns-then-leads_back-clause-fault c links positions root flagged is_step = grind (arith, common_steps, old_target links c.args.entries.now c.args.reached.now positions (reverse c.args.trail.now) c.args.step.now c.in-Some.at c.args.root.now.first_position c.reported_of-reported.result true flagged is_step root c.in-Some.ensures.within c.in-Some.ensures.found c.if-reached-at.true (sym c.if-leads_back.ensures) c.reported_of-reported.ensures)

pub returns-then-reached-at-clause-fault : goal.returns-then-reached-at-clause-fault
returns-then-reached-at-clause-fault c links positions root flagged is_step = grind (arith, common_steps, old_target links c.args.entries.now c.args.reached.now positions (reverse c.args.trail.now) c.args.step.now c.in-Some.at c.args.root.now.first_position c.reported_of-reported.result false flagged is_step root c.in-Some.ensures.within c.in-Some.ensures.found c.if-reached-at.true (sym c.if-leads_back.ensures) c.reported_of-reported.ensures)

pub returns-then-not-fits-clause-fault : goal.returns-then-not-fits-clause-fault
returns-then-not-fits-clause-fault c links positions root flagged is_step = grind (arith, common_steps, unfit_target links c.args.entries.now c.args.reached.now positions (reverse c.args.trail.now) c.args.step.now c.in-Some.at c.index-entries-at.result flagged is_step c.in-Some.ensures.within c.in-Some.ensures.found c.if-reached-at.false c.index-entries-at.is (sym c.if-not-fits.ensures))

pub returns-clause-good : goal.returns-clause-good
returns-clause-good c links positions flagged is_step = grind (arith, common_steps, good_target links c.args.entries.now c.args.reached.now positions (reverse c.args.trail.now) c.args.step.now c.in-Some.at c.index-entries-at.result flagged is_step c.in-Some.ensures.within c.in-Some.ensures.found c.if-reached-at.false c.index-entries-at.is (sym c.if-not-fits.ensures))
