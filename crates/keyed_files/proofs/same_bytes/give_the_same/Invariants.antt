-- Where both give the same from here on, they gave the same from the start.
use Rattle.keyed_files.specs.SameBytes.{GiveTheSame}
use Rattle.keyed_files.proofs.same_bytes.give_the_same.Given as goal

abbrev pub invariant-loop : goal.invariant-loop
invariant-loop g l = GiveTheSame (g.R.Read.remaining l.one) (g.R.Read.remaining l.other) → GiveTheSame (g.R.Read.remaining l.fn.one) (g.R.Read.remaining l.fn.other)
