use Rattle.std.proofs.Common.{◌∙◌, length, ap, arith}
use Rattle.dicomdir_writing.specs.TreeOf.{rows_at}
use Rattle.dicomdir_writing.specs.Positions.{greatest_size}
use Rattle.dicomdir_writing.specs.Built.{file_is_too_large, too_large}
use Rattle.dicomdir_writing.proofs.DirectoryHasItsText.{stopped, stop_is_large, file_too_large, file_fits, fits_more, fits_not, lays_tree, size_with}
use Rattle.dicomdir_writing.proofs.WrittenLinked.{written_is_linked}
use Rattle.dicomdir_writing.proofs.built.build_within.Goals as goal

pub returns-in-Err-clause-too_large : goal.returns-in-Err-clause-too_large
returns-in-Err-clause-too_large g c = λ _. stop_is_large c.in-Err.stop c.fault-in-Err.result c.fault-in-Err.ensures

pub returns-in-Err-clause-fault : goal.returns-in-Err-clause-fault
returns-in-Err-clause-fault g c =
    let kept = ap rows_at c.as_slice.ensures.value ∙ c.in-Ok.ensures.rows in
    stopped c.args.most c.args.uid c.args.rows.now _ _ c.in-Err.stop _ kept c.new-plan.ensures.size c.in-Err.ensures.stops c.fault-in-Err.ensures

pub returns-in_default-sum_up_to-clause-fault : goal.returns-in_default-sum_up_to-clause-fault
returns-in_default-sum_up_to-clause-fault g c =
    let kept = ap rows_at c.as_slice.ensures.value ∙ c.in-Ok.ensures.rows in
    let laid = lays_tree c.args.rows.now _ _ _ _ _ _ _ kept c.new-plan.ensures.entries c.new-plan.ensures.size c.in-Ok-lay.ensures.laid in
    let header = c.len.ensures.value ∙ ap length c.file_header.ensures.bytes in
    too_large (file_too_large c.args.most c.args.uid c.args.rows.now c.len.result c.lay.new.plan.size (record { header_is = header; records_are = let s = laid.size in omega (arith, s) }) c.in_default-sum_up_to.ensures.none) c.fault-in_default-sum_up_to.ensures

pub invariant_of-result : goal.invariant_of-result
invariant_of-result g c =
    let kept = ap rows_at c.as_slice.ensures.value ∙ c.in-Ok.ensures.rows in
    record {
      laid = lays_tree c.args.rows.now _ _ _ _ _ _ _ kept c.new-plan.ensures.entries c.new-plan.ensures.size c.in-Ok-lay.ensures.laid;
      size = size_with c.args.uid c.len.result c.lay.new.plan.size _ (c.len.ensures.value ∙ ap length c.file_header.ensures.bytes) c.in-Some.ensures.some.0;
      duplicates_are = c.in-Ok.ensures.duplicates;
    }

pub returns-clause-fits : goal.returns-clause-fits
returns-clause-fits g c =
    let kept = ap rows_at c.as_slice.ensures.value ∙ c.in-Ok.ensures.rows in
    let laid = lays_tree c.args.rows.now _ _ _ _ _ _ _ kept c.new-plan.ensures.entries c.new-plan.ensures.size c.in-Ok-lay.ensures.laid in
    let header = c.len.ensures.value ∙ ap length c.file_header.ensures.bytes in
    file_fits c.args.most c.args.uid c.args.rows.now c.len.result c.lay.new.plan.size (record { header_is = header; records_are = let s = laid.size in omega (arith, s) })
    (let is = c.in-Some.ensures.some.0 in let le = c.in-Some.ensures.some.1 in omega (arith, is, le))

pub returns-clause-linked : goal.returns-clause-linked
returns-clause-linked g c =
    let kept = ap rows_at c.as_slice.ensures.value ∙ c.in-Ok.ensures.rows in
    let laid = lays_tree c.args.rows.now _ _ _ _ _ _ _ kept c.new-plan.ensures.entries c.new-plan.ensures.size c.in-Ok-lay.ensures.laid in
    let header = c.len.ensures.value ∙ ap length c.file_header.ensures.bytes in
    let fits = file_fits c.args.most c.args.uid c.args.rows.now c.len.result c.lay.new.plan.size (record { header_is = header; records_are = let s = laid.size in omega (arith, s) })
    (let is = c.in-Some.ensures.some.0 in let le = c.in-Some.ensures.some.1 in omega (arith, is, le)) in
    written_is_linked c.args.uid c.args.rows.now c.file_header.ensures.known c.in-Ok.ensures.valid (fits_more c.args.most greatest_size c.args.uid c.args.rows.now (let m = c.ranges.most.fits in omega (arith, m)) fits)

pub returns-clause-too_large : goal.returns-clause-too_large
returns-clause-too_large g c = λ large. fits_not (file_is_too_large c.args.most c.args.uid c.args.rows.now) (returns-clause-fits g c) large
