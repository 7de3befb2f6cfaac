use Rattle.std.proofs.Common.{◌≡◌, ◌++◌, ◌∷◌, [], All, arith, subst, sym}
use Rattle.std.proofs.lemmas.List.Elements.{All-push}
use Rattle.std.specs.List.{flat_map}
use Rattle.arrange_command.specs.Patterns.{IsPart, IsSplit, spelled}
use Rattle.arrange_command.proofs.PatternsAreRead.{read_more}
use Rattle.arrange_command.proofs.pattern.parts_of.Goals as goal

pub loop-consumed-preserved : goal.loop-consumed-preserved
loop-consumed-preserved c =
    let parts = c.loop-consumed.parts.items in
    let rest = c.loop-consumed.rest.now in
    let part = c.in_ok-part.part in
    let more = c.in_ok-part.more.now in
    let text = c.args.pattern.now in
    let before = c.loop-consumed.invariant in
    let split : IsSplit rest part more = c.in_ok-part.ensures in
    let pushed : c.push.new.self.items ≡ parts ++ part ∷ [] = c.in_ok-push.ensures.items in (
      subst (λ read. flat_map spelled read ++ more ≡ text) (sym pushed) (read_more parts part rest more text before.0 split.0),
      subst (All IsPart) (sym pushed) (All-push IsPart parts part before.1 split.1),
      omega (arith, split.2, before.2),
    )
