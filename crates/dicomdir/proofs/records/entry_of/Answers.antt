use Rattle.std.proofs.Common.{arith}
use Rattle.dicomdir.specs.Directory.{found}
use Rattle.dicomdir.proofs.RecordsAreAsSpelled.{finds_number, finds_kind, finds_file_id, not_empty}
use Rattle.dicomdir.proofs.records.entry_of.Goals as goal
use Rattle.std.proofs.lemmas.Grind.{common_steps}

pub returns-clause-read : goal.returns-clause-read
returns-clause-read c es has = grind (arith, common_steps, finds_number 4 c.find.result (found 0x00041400 0 es) (c.find.ensures.found es has), finds_number 2 c.find-2.result (found 0x00041410 0 es) (c.find-2.ensures.found es has), finds_number 4 c.find-3.result (found 0x00041420 0 es) (c.find-3.ensures.found es has), finds_kind c.find-4.result (found 0x00041430 0 es) (c.find-4.ensures.found es has), finds_file_id c.find-5.result (found 0x00041500 0 es) (c.find-5.ensures.found es has), not_empty c.kind_of-kind.result.now c.is_empty.result c.is_empty.ensures c.if-is_empty.false)
