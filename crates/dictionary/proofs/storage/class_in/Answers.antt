use Rattle.std.proofs.Common.{sym, ◌∙◌}
use Rattle.dictionary.specs.StorageTable.{storage_row}
use Rattle.dictionary.proofs.StorageClassesAreFew.{row_of_part, past_part}
use Rattle.dictionary.proofs.storage.class_in.Goals as goal

pub returns-then-remaining-rows : goal.returns-then-remaining-rows
returns-then-remaining-rows c =
    sym (c.loop-rows.invariant ∙ row_of_part (λ rows. rows.now) storage_row c.args.parts.now c.loop-rows.rows-index c.loop-rows.remaining _ _ c.loop-rows-test.true c.if-remaining-rows.true)

pub loop-rows-preserved : goal.loop-rows-preserved
loop-rows-preserved c =
    c.loop-rows.invariant ∙ past_part (λ rows. rows.now) storage_row c.args.parts.now c.loop-rows.rows-index c.loop-rows.remaining _ c.loop-rows-test.true c.if-remaining-rows.false
