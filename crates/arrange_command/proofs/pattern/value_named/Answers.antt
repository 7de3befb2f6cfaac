use Rattle.std.proofs.Common.{◌≡◌, refl, subst, Some}
use Rattle.std.specs.Option.{IfSome}
use Rattle.inspection.specs.NamedTag.{tag_spelled}
use Rattle.arrange_command.proofs.PatternsAreRead.{spelt}
use Rattle.arrange_command.proofs.pattern.value_named.Goals as goal

pub returns-in-Some : goal.returns-in-Some
returns-in-Some c =
    let text : c.in-Ok.text.now ≡ c.args.name.now = c.in-Ok.ensures.cases.0 in
    let named = subst (λ name. IfSome (tag_spelled name) (λ s. c.tag_named.result ≡ Some s)) text c.tag_named.ensures in
    record { named = (refl, spelt _ c.tag_named.result c.in-Some.tag named c.in-Some.is) }
