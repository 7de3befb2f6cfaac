use Rattle.negotiate.proofs.TableHasAcceptedContexts.{context_in-table, length-table}
use Rattle.negotiate.proofs.table.compact.Goals as goal

pub returns-clause-count : goal.returns-clause-count
returns-clause-count c =
    length-table _ c.args.request.now _ _ c.loop-proposal.invariant.rows c.in-None.ensures.steps.0

pub returns-clause-contexts : goal.returns-clause-contexts
returns-clause-contexts c =
    context_in-table _ c.args.request.now _ _ c.loop-proposal.invariant.rows c.in-None.ensures.steps.0 c.keeps.ensures.request.ids_distinct
