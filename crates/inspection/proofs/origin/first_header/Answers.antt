use Rattle.std.proofs.Common.{◌∙◌, sym}
use Rattle.element.specs.declared.syntax.Syntax.TheVariants.{Explicit}
use Rattle.inspection.proofs.FrontHeaderIsWhole.{whole_at}
use Rattle.inspection.proofs.origin.first_header.Goals as goal

pub read_header-requires : goal.read_header-requires
read_header-requires c = whole_at Explicit c.args.bytes.now c.in-Size.size (sym c.need.ensures ∙ c.in-Size.is) c.if-size-bytes.true
