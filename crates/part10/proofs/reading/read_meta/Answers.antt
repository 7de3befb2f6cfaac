use Rattle.std.proofs.Common.{sym, ◌∙◌}
use Rattle.part10.proofs.EncapsulatedSyntaxesFail.{compressed_fails, still_fails, still_names}
use Rattle.part10.proofs.reading.read_meta.Goals as goal

pub returns-then-is_encapsulated-clause-fault : goal.returns-then-is_encapsulated-clause-fault
returns-then-is_encapsulated-clause-fault g c =
    compressed_fails c.in-Ok.meta _ _ c.in-Ok.ensures.header (sym c.is_encapsulated.ensures ∙ c.if-is_encapsulated.true)

pub returns-in-Err-clause-fault : goal.returns-in-Err-clause-fault
returns-in-Err-clause-fault g c = still_fails c.in-Err.fault _ c.in-Err.ensures.fault

pub returns-in-Err-clause-other_syntax : goal.returns-in-Err-clause-other_syntax
returns-in-Err-clause-other_syntax g c = λ same. still_names _ _ (c.in-Err.ensures.other_syntax same)
