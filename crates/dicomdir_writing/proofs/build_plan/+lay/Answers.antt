use Rattle.std.proofs.Common.{◌∙◌, ◌≤◌, ◌-◌, length, sym, arith}
use Rattle.std.proofs.lemmas.List.{length-map}
use Rattle.std.proofs.lemmas.Result.{err_from_is_err_and}
use Rattle.dicomdir_writing.specs.TreeOf.{rows_at, row_groups, forest_for}
use Rattle.dicomdir.specs.Level.{lower_level}
use Rattle.dicomdir_writing.specs.Record.{record_for}
use Rattle.dicomdir_writing.proofs.TreeIsLaidDown.{group_laid, below_stops, own_stops, empty_group, group_at, first_now, none_now, whole_laid}
use Rattle.dicomdir_writing.proofs.build_plan.+lay.Goals as goal

pub returns-in_err-below-clause-stops : goal.returns-in_err-below-clause-stops
returns-in_err-below-clause-stops g t c =
    let p = err_from_is_err_and c.from_residual.result c.from_residual.ensures.1 in
    let gs = c.in-Ok.groups.items in
    let group = c.as_slice-group.result.now in
    let le : c.loop-at.at ≤ length (row_groups gs) = let w = c.loop-at.invariant.within in omega (arith, w, length-map gs (λ v. rows_at v.items)) in
    rw (p.1, p.2)
    (below_stops c.args.level (row_groups gs) c.loop-at.at (rows_at group) c.in-Some.row.now.now c.loop-at-test.true le
    (group_at gs (c.loop-at.at - 1) c.index.result.now group c.as_slice-group.ensures.value c.index.ensures)
    (first_now group c.in-Some.row.now c.in-Some.ensures.value)
    c.args.most (rows_at c.args.rows.now) c.args.plan.now.entries.items c.loop-at.plan.entries.items c.args.plan.now.size c.loop-at.plan.size c.loop-at.chain.first c.loop-at.chain.last c.in_err-below.field-0.0
    (sym c.is_image.ensures ∙ c.if-is_image.false) c.in-Ok.ensures c.loop-at.invariant.laid (rw c.below.ensures at c.in_err-below.ensures.stops))

pub returns-in_err-start-clause-stops : goal.returns-in_err-start-clause-stops
returns-in_err-start-clause-stops g t c =
    let p = err_from_is_err_and c.from_residual-in_err-start.result c.from_residual-in_err-start.ensures.1 in
    let gs = c.in-Ok.groups.items in
    let group = c.as_slice-group.result.now in
    let le : c.loop-at.at ≤ length (row_groups gs) = let w = c.loop-at.invariant.within in omega (arith, w, length-map gs (λ v. rows_at v.items)) in
    rw (p.1, p.2)
    (own_stops c.args.level (row_groups gs) c.loop-at.at (rows_at group) c.in-Some.row.now.now c.loop-at-test.true le
    (group_at gs (c.loop-at.at - 1) c.index.result.now group c.as_slice-group.ensures.value c.index.ensures)
    (first_now group c.in-Some.row.now c.in-Some.ensures.value)
    c.args.most (rows_at c.args.rows.now) c.args.plan.now.entries.items c.loop-at.plan.entries.items c.lay.new.plan.entries.items c.args.plan.now.size c.loop-at.plan.size c.lay.new.plan.size c.loop-at.chain.first c.loop-at.chain.last c.in_ok-below.below.first c.in_ok-below.below.last c.in_err-start.field-0.0
    (sym c.is_image.ensures ∙ c.if-is_image.false) c.in-Ok.ensures c.loop-at.invariant.laid (rw c.below.ensures at c.in_ok-below.ensures.laid) c.in_err-start.ensures.stops)

pub loop-at-preserved-in-Some : goal.loop-at-preserved-in-Some
loop-at-preserved-in-Some g t c =
    let gs = c.in-Ok.groups.items in
    let group = c.as_slice-group.result.now in
    let le : c.loop-at.at ≤ length (row_groups gs) = let w = c.loop-at.invariant.within in omega (arith, w, length-map gs (λ v. rows_at v.items)) in
    record {
      within = let w = c.loop-at.invariant.within in omega (arith, w);
      laid =
          group_laid c.args.level (row_groups gs) c.loop-at.at (rows_at group) c.in-Some.row.now.now c.loop-at-test.true le
          (group_at gs (c.loop-at.at - 1) c.index.result.now group c.as_slice-group.ensures.value c.index.ensures)
          (first_now group c.in-Some.row.now c.in-Some.ensures.value)
          c.args.plan.now.entries.items c.loop-at.plan.entries.items c.lay.new.plan.entries.items c.add.new.self.entries.items
          c.args.plan.now.size c.loop-at.plan.size c.lay.new.plan.size c.add.new.self.size c.loop-at.chain.first c.loop-at.chain.last c.in_ok-below.below.first c.in_ok-below.below.last c.in_ok-start.start c.after-chain.result.first c.after-chain.result.last
          c.loop-at.invariant.laid (rw c.below.ensures at c.in_ok-below.ensures.laid) c.in_ok-start.ensures.added c.in_ok-start.ensures.size c.in_ok-start.ensures.start c.after-chain.ensures.first c.after-chain.ensures.last;
    }

pub loop-at-preserved : goal.loop-at-preserved
loop-at-preserved g t c =
    let gs = c.in-Ok.groups.items in
    let group = c.as_slice-group.result.now in
    let le : c.loop-at.at ≤ length (row_groups gs) = let w = c.loop-at.invariant.within in omega (arith, w, length-map gs (λ v. rows_at v.items)) in
    record {
      within = let w = c.loop-at.invariant.within in omega (arith, w);
      laid =
          empty_group (record_for c.args.level) (forest_for (lower_level c.args.level)) (row_groups gs) c.loop-at.at (rows_at group) c.args.plan.now.entries.items c.loop-at.plan.entries.items c.args.plan.now.size c.loop-at.plan.size c.loop-at.chain.first c.loop-at.chain.last
          c.loop-at-test.true le (group_at gs (c.loop-at.at - 1) c.index.result.now group c.as_slice-group.ensures.value c.index.ensures)
          (none_now group c.in_default-first.ensures.value) c.loop-at.invariant.laid;
    }

pub returns-clause-laid : goal.returns-clause-laid
returns-clause-laid g t c =
    whole_laid c.args.level (row_groups c.in-Ok.groups.items) (rows_at c.args.rows.now) c.loop-at.at _ _ _ _ _ _ (sym c.is_image.ensures ∙ c.if-is_image.false) c.in-Ok.ensures c.loop-at-test.false c.loop-at.invariant.laid
