use Rattle.std.proofs.Common.{rules}
use Rattle.engine.proofs.StoresAreKept.PartsAreWalked.{begin_walk, step_walk, end_walk, stop_walk}
use Rattle.engine.proofs.stores.walk.Goals as goal

pub loop-rest-init : goal.loop-rest-init
loop-rest-init g c = λ syntax lim set k. begin_walk _ syntax lim set c.args.part.now k

pub loop-rest-preserved : goal.loop-rest-preserved
loop-rest-preserved g c =
    λ syntax lim set k. step_walk _ _ syntax lim set c.args.part.now _ _ c.step-consumed.result.0 c.step-consumed.ensures.stands c.step-consumed.ensures.syntax c.step-consumed.ensures.limits c.split_at.ensures.back
    (c.loop-rest.invariant syntax lim set k)

pub returns-after-loop-rest : goal.returns-after-loop-rest
returns-after-loop-rest g c = λ syntax lim set k. end_walk _ syntax lim set c.args.part.now _ (search rules) (c.loop-rest.invariant syntax lim set k)

pub returns-then-consumed-eq0 : goal.returns-then-consumed-eq0
returns-then-consumed-eq0 g c =
    λ syntax lim set k. stop_walk _ _ syntax lim set c.args.part.now _ c.step-consumed.result.0 c.step-consumed.ensures.some (λ fault e. (c.step-consumed.ensures.refused fault e).1) c.if-consumed-eq0.true
    (search rules) (λ i. search rules) (c.loop-rest.invariant syntax lim set k)
