use Rattle.std.proofs.Common.{refl, sym, arith}
use Rattle.dicomdir.proofs.Trails.{paths_first}
use Rattle.dicomdir.proofs.links.first_step.Goals as goal

pub returns : goal.returns
returns c links is = (paths_first links, (omega (arith, c.if-root-eq0.false), sym is, (refl, refl)))
