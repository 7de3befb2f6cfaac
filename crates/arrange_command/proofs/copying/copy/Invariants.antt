-- Where the writer gets all from here on, it got all from the start.
use Rattle.std.proofs.Common.{ℕ, List, Option}
use Rattle.arrange_command.specs.Copying.{GetsAll}
use Rattle.arrange_command.proofs.copying.copy.Given as goal

abbrev pub invariant-loop : goal.invariant-loop
invariant-loop g l = (new : Option (List ℕ)) → GetsAll (g.R.Read.remaining l.from) (g.W.Write.contents l.to) new → GetsAll (g.R.Read.remaining l.fn.from) (g.W.Write.contents l.fn.to) new
