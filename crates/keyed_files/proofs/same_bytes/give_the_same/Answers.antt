-- The bytes that were compared are the same, and so is what is read after them.
use Rattle.std.proofs.Common.{rules}
use Rattle.keyed_files.proofs.FrontsAreSame.{before}
use Rattle.keyed_files.proofs.same_bytes.give_the_same.Goals as goal

pub loop-preserved : goal.loop-preserved
loop-preserved g c = λ same. c.loop.invariant (before _ _ _ _ _ _ c.in_ok-count.ensures.consumes c.in-Ok.ensures.bytes (search rules) same)
