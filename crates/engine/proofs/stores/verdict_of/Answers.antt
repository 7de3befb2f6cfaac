use Rattle.std.proofs.Common.{refl, sym, ap, ◌∙◌}
use Rattle.engine.specs.Timeline.{Finding}
use Rattle.engine.proofs.StoresAreKept.WalkIsJudged.{fault_fails, fault_is_failure, judged_by}
use Rattle.engine.proofs.stores.verdict_of.Goals as goal

pub returns-in-Err : goal.returns-in-Err
returns-in-Err g c = (
  λ e. fault_is_failure c.in-Err.fault (ap (λ (f : Finding). f.status) (sym c.failure_of.ensures) ∙ e),
  fault_fails c.args.walker.now c.args.command.now c.in-Err.fault c.failure_of.result c.failure_of.ensures c.in-Err.ensures.fails,
)

pub returns-in-Ok : goal.returns-in-Ok
returns-in-Ok g c = judged_by c.args.walker.now c.args.command.now c.compare.result (c.in-Ok.ensures.whole refl) c.compare.ensures
