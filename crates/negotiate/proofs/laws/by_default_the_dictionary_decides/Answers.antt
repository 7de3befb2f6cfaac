use Rattle.negotiate.proofs.Public.{default_context, default_result}
use Rattle.negotiate.proofs.laws.by_default_the_dictionary_decides.Goals as goal

pub returns-clause-result : goal.returns-clause-result
returns-clause-result c = default_result

pub returns-clause-context : goal.returns-clause-context
returns-clause-context c = default_context
