use Rattle.std.proofs.Common.{rules, ◌∙◌}
use Rattle.std.proofs.lemmas.List.Sorted.{answers_always}
use Rattle.dicomdir.proofs.Trails.{offset_found, offset_absent}
use Rattle.dicomdir.proofs.links.index_of.Goals as goal

pub returns-in-Ok-clause-found : goal.returns-in-Ok-clause-found
returns-in-Ok-clause-found c d =
    offset_found c.args.entries.now c.from-offset.result c.in-Ok.at (c.in-Ok.ensures.position (λ e. e.offset) (answers_always _ _ _ (λ f a r g called. search rules))) d ∙ c.from-offset.ensures

pub returns-in-Err-clause-absent : goal.returns-in-Err-clause-absent
returns-in-Err-clause-absent c =
    rw (← c.from-offset.ensures) (offset_absent c.args.entries.now c.from-offset.result c.in-Err.field-0 (c.in-Err.ensures.position (λ e. e.offset) (answers_always _ _ _ (λ f a r g called. search rules))))
