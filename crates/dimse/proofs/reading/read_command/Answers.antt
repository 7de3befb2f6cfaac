use Rattle.std.proofs.Common.{◌∙◌, arith}
use Rattle.dimse.proofs.TextSpellsOneCommand.{command_only, ok_found, err_fault}
use Rattle.dimse.proofs.reading.read_command.Goals as goal

pub returns-clause-found : goal.returns-clause-found
returns-clause-found c = ok_found c.read_text.result c.args.bytes.now (λ i. omega (arith, c.type_inv.bytes i)) c.read_text.ensures

pub returns-clause-only : goal.returns-clause-only
returns-clause-only c = λ command h. c.read_text.ensures ∙ command_only c.args.bytes.now command h

pub returns-clause-fault : goal.returns-clause-fault
returns-clause-fault c = err_fault c.read_text.result c.args.bytes.now (λ i. omega (arith, c.type_inv.bytes i)) c.read_text.ensures
