use Rattle.std.proofs.Common.{◌≡◌, ◌∙◌, ap, arith}
use Rattle.element.specs.Header.{need, is_whole}
use Rattle.element.specs.declared.size.Need.TheVariants.{Size}
use Rattle.sequence.specs.Coding.{layout}
use Rattle.sequence.proofs.Public.{need_least}
use Rattle.dicomdir.proofs.FrontIsFirstElement.{head_whole}
use Rattle.dicomdir.proofs.found.head_of.Goals as goal

pub read_header-requires : goal.read_header-requires
read_header-requires c =
    let is : need (layout c.args.syntax) c.args.text.now ≡ Size c.in-Size.size = grind (arith, c.need.ensures, c.in-Size.is) in
    let fits = c.if-size-text.true in
    ap (λ z. is_whole z c.args.text.now) c.layout-then-size-text.ensures ∙ head_whole c.args.syntax c.args.text.now c.in-Size.size is (omega (arith, fits))

pub returns-then-size-text-clause-some : goal.returns-then-size-text-clause-some
returns-then-size-text-clause-some c =
    let is : need (layout c.args.syntax) c.args.text.now ≡ Size c.in-Size.size = grind (arith, c.need.ensures, c.in-Size.is) in
    need_least c.args.syntax c.args.text.now c.in-Size.size is
