use Rattle.std.proofs.Common.{arith}
use Rattle.sequence.proofs.walker.Walker.held.Goals as goal

pub returns-clause-bound : goal.returns-clause-bound
returns-clause-bound g c = omega (arith, c.len.ensures.value, c.len-2.ensures.all, c.len-3.ensures.value, c.len-3.ensures.fits, c.args.self.now.together)
