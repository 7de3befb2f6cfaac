use Rattle.std.proofs.Common.{arith, sym, ◌∙◌}
use Rattle.std.proofs.lemmas.Grind.{common_steps}
use Rattle.dicomdir.proofs.WalksEndOrFail.{explicit_check, implicit_check}
use Rattle.dicomdir.proofs.checking.after_header.Goals as goal

pub returns-in-Implicit-clause-fault : goal.returns-in-Implicit-clause-fault
returns-in-Implicit-clause-fault c some =
    let is = sym c.syntax.ensures ∙ c.in-Implicit.is in
    grind (arith, common_steps, implicit_check c.args.bytes.now c.read_meta.new.input.now c.in-Ok.meta c.in-Ok.ensures.header c.in-Ok.ensures.native is)

pub returns-in-Explicit-clause-read : goal.returns-in-Explicit-clause-read
returns-in-Explicit-clause-read c =
    explicit_check c.args.bytes.now c.read_meta.new.input.now c.in-Ok.meta c.in-Ok.ensures.header c.in-Ok.ensures.native (sym c.syntax.ensures ∙ c.in-Explicit.is)
