use Rattle.std.proofs.Common.{◌-◌, ◌∙◌, None, take, sym, ap, arith}
use Rattle.sequence.specs.machine.Machine.{nearer}
use Rattle.sequence.specs.machine.Scopes.{nearest_from}
use Rattle.sequence.proofs.CodeIsMachine.InnermostLevel.{nearest_at}
use Rattle.sequence.proofs.levels.nearest.Goals as goal

pub returns-in-Some : goal.returns-in-Some
returns-in-Some c =
    let last = nearest_at c.args.levels.now c.loop-open.open (record { end = 0; last = 0; kind = 0; implicit = 0 }) c.loop-open-test.true c.loop-open.invariant.0 in
    ap (λ z. nearer z (nearest_from None (take (c.loop-open.open - 1) c.args.levels.now))) (sym (sym (ap (λ f. f.stop) c.scope.ensures) ∙ c.in-Some.is)) ∙ sym last ∙ c.loop-open.invariant.1

pub loop-open-preserved : goal.loop-open-preserved
loop-open-preserved c =
    let last = nearest_at c.args.levels.now c.loop-open.open (record { end = 0; last = 0; kind = 0; implicit = 0 }) c.loop-open-test.true c.loop-open.invariant.0 in
    (omega (arith, c.loop-open.invariant.0), ap (λ z. nearer z (nearest_from None (take (c.loop-open.open - 1) c.args.levels.now))) (sym (sym (ap (λ f. f.stop) c.scope.ensures) ∙ c.in_default.is)) ∙ sym last ∙ c.loop-open.invariant.1)
