use Rattle.negotiate.proofs.Public.{native_carried, native_context, native_result}
use Rattle.negotiate.proofs.laws.by_default_the_native_syntaxes_decide.Goals as goal

pub returns-clause-result : goal.returns-clause-result
returns-clause-result c = native_result

pub returns-clause-context : goal.returns-clause-context
returns-clause-context c = native_context

pub returns-clause-carried : goal.returns-clause-carried
returns-clause-carried c = native_carried
