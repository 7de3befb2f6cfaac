use Rattle.std.proofs.Common.{arith}
use Rattle.dicomdir.proofs.RecordsAreAsSpelled.{file_id_as}
use Rattle.dicomdir.proofs.records.read_record.Goals as goal
use Rattle.std.proofs.lemmas.Grind.{common_steps}

pub returns-clause-read : goal.returns-clause-read
returns-clause-read c es has = grind (arith, common_steps, file_id_as c.args.offset es c.in-Some.entry c.find.result (c.in-Some.ensures.read es has) (c.find.ensures.found es has))
