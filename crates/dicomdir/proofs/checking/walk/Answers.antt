use Rattle.std.proofs.Common.{arith, ap, ◌∙◌, ◌^◌}
use Rattle.dicomdir.proofs.WalksEndOrFail.{going_first, text_fails}
use Rattle.dicomdir.proofs.checking.walk.Goals as goal

pub walk_piece-requires : goal.walk_piece-requires
walk_piece-requires c = (omega arith, going_first c.new-walker.result c.new-walker.ensures.stands)

pub returns-in-Err-clause-fails : goal.returns-in-Err-clause-fails
returns-in-Err-clause-fails c =
    text_fails c.new-walker.result c.args.text.now c.in-Err.fault c.new-walker.ensures.stands c.new-walker.ensures.syntax
    (c.new-walker.ensures.limits ∙ ap (λ w. record { wanted = w; depth = 64; bytes = 2 ^ 48 }) c.none.ensures) (λ i. omega (arith, c.type_inv.text i)) c.in-Err.ensures.fails
