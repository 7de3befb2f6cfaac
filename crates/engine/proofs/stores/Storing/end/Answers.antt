use Rattle.std.proofs.Common.{sym, ap, subst, ◌∙◌}
use Rattle.engine.specs.machine.Verdicts.{HasVerdict}
use Rattle.engine.specs.StoredData.{stored_of, drafting_in}
use Rattle.engine.specs.machine.Storing.{finding_of}
use Rattle.engine.proofs.StoresAreKept.DraftAndWalk.{committed_drafts, undrafted_drafts, drops_drafts}
use Rattle.engine.proofs.StoresAreKept.WalkIsJudged.{ends_committed, ends_unfiled, ends_failed}
use Rattle.engine.proofs.stores.Storing.end.Goals as goal

pub returns-then-drafting-clause-ends : goal.returns-then-drafting-clause-ends
returns-then-drafting-clause-ends g c =
    ends_committed c.args.command.now (finding_of c.commit.result) (g.F.Filing.store c.args.filing.now) (g.F.Filing.store c.commit.new.filing) (stored_of c.args.self.now) (sym c.drafting-drafting.ensures ∙ c.if-drafting.true)
    (subst (HasVerdict c.args.command.now (stored_of c.args.self.now)) c.in-Ok.is c.verdict.ensures) c.commit.ensures

pub returns-else-drafting-clause-ends : goal.returns-else-drafting-clause-ends
returns-else-drafting-clause-ends g c =
    ends_unfiled c.args.command.now (finding_of c.of.result) (g.F.Filing.store c.args.filing.now) (stored_of c.args.self.now) (sym c.drafting-drafting.ensures ∙ c.if-drafting.false)
    (subst (HasVerdict c.args.command.now (stored_of c.args.self.now)) c.in-Ok.is c.verdict.ensures) (ap finding_of c.of.ensures)

pub returns-in-Err-clause-ends : goal.returns-in-Err-clause-ends
returns-in-Err-clause-ends g c =
    ends_failed c.args.command.now c.in-Err.failure (g.F.Filing.store c.args.filing.now) (g.F.Filing.store c.leave.new.filing) (stored_of c.args.self.now)
    (subst (HasVerdict c.args.command.now (stored_of c.args.self.now)) c.in-Err.is c.verdict.ensures) c.leave.ensures.drops

pub returns-then-drafting-clause-drafts : goal.returns-then-drafting-clause-drafts
returns-then-drafting-clause-drafts g c = committed_drafts (drafting_in (stored_of c.args.self.now)) (finding_of c.commit.result) (g.F.Filing.store c.args.filing.now) (g.F.Filing.store c.commit.new.filing) c.commit.ensures

pub returns-else-drafting-clause-drafts : goal.returns-else-drafting-clause-drafts
returns-else-drafting-clause-drafts g c = undrafted_drafts (drafting_in (stored_of c.args.self.now)) (g.F.Filing.store c.args.filing.now) (sym c.drafting-drafting.ensures ∙ c.if-drafting.false)

pub returns-in-Err-clause-drafts : goal.returns-in-Err-clause-drafts
returns-in-Err-clause-drafts g c =
    drops_drafts (drafting_in (stored_of c.args.self.now)) (g.F.Filing.store c.args.filing.now) (g.F.Filing.store c.leave.new.filing) (stored_of c.leave.new.self) c.leave.ensures.nothing c.leave.ensures.drops
