use Rattle.std.proofs.Common.{sym, ◌∙◌}
use Rattle.dicomdir_writing.proofs.OtherSyntaxesFail.{other_fails}
use Rattle.dicomdir_writing.proofs.allowed.read_allowed.Goals as goal

pub returns-else-is_allowed-clause-fault : goal.returns-else-is_allowed-clause-fault
returns-else-is_allowed-clause-fault g c =
    other_fails c.args.additional.now c.in-Ok.meta _ _ c.in-Ok.ensures.header (sym c.is_allowed.ensures ∙ c.if-is_allowed.false)
