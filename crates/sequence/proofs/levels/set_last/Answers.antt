use Rattle.std.proofs.Common.{arith}
use Rattle.sequence.proofs.CodeIsMachine.InnermostLevel.{last_changed}
use Rattle.sequence.proofs.levels.set_last.Goals as goal

pub returns-in-len1-up-clause-top : goal.returns-in-len1-up-clause-top
returns-in-len1-up-clause-top g c =
    (last_changed c.args.root.now c.args.levels.now.items c.as_mut_slice.result.now (record { end = 0; last = 0; kind = 0; implicit = 0 }) c.set_last.new.self c.args.tag c.number.result c.as_mut_slice.ensures.value (omega (arith, c.in-len1-up.len_at_least)) c.set_last.ensures c.number.ensures).0

pub returns-in-len1-up-clause-below : goal.returns-in-len1-up-clause-below
returns-in-len1-up-clause-below g c =
    (last_changed c.args.root.now c.args.levels.now.items c.as_mut_slice.result.now (record { end = 0; last = 0; kind = 0; implicit = 0 }) c.set_last.new.self c.args.tag c.number.result c.as_mut_slice.ensures.value (omega (arith, c.in-len1-up.len_at_least)) c.set_last.ensures c.number.ensures).1
