use Rattle.negotiate.proofs.Public.{context_in-context_rows}
use Rattle.negotiate.proofs.TableHasAcceptedContexts.{length-context_rows}
use Rattle.negotiate.proofs.laws.table_has_the_accepted_contexts.Goals as goal

pub returns-clause-contexts : goal.returns-clause-contexts
returns-clause-contexts c = context_in-context_rows

pub returns-clause-count : goal.returns-clause-count
returns-clause-count c = length-context_rows
