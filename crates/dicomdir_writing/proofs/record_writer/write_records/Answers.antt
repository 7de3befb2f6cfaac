use Rattle.std.proofs.Common.{◌-◌, ◌++◌, take, append_assoc, arith}
use Rattle.std.proofs.lemmas.Result.{err_from_is_err_and}
use Rattle.dicomdir_writing.specs.machine.Building.{entry_text, laid_text}
use Rattle.dicomdir_writing.proofs.DirectoryHasItsText.{last_entry, front_after, front_more}
use Rattle.dicomdir_writing.proofs.record_writer.write_records.Goals as goal
use Rattle.std.proofs.lemmas.Grind.{common_steps}

pub loop-at-preserved : goal.loop-at-preserved
loop-at-preserved g c =
    let i = c.loop-at.invariant in
    let text = entry_text c.args.size c.index-entries-at.result in
    grind (arith, common_steps, last_entry c.args.size c.args.entries.now c.loop-at.at c.index-entries-at.result c.loop-at-test.true i.within c.index-entries-at.is, append_assoc i.sent.0 text (laid_text c.args.size (take (c.loop-at.at - 1) c.args.entries.now)))

pub returns-in_err-write_record-clause-front : goal.returns-in_err-write_record-clause-front
returns-in_err-write_record-clause-front g c =
    let i = c.loop-at.invariant in
    let text = entry_text c.args.size c.index-entries-at.result in
    let others = laid_text c.args.size (take (c.loop-at.at - 1) c.args.entries.now) in
    grind (arith, common_steps, err_from_is_err_and c.from_residual.result c.from_residual.ensures.1, last_entry c.args.size c.args.entries.now c.loop-at.at c.index-entries-at.result c.loop-at-test.true i.within c.index-entries-at.is, front_after _ _ _ i.sent.0 (text ++ others) i.sent.2 (front_more _ _ text others c.in_err-write_record.ensures.front), front_more _ _ text others c.in_err-write_record.ensures.front)
