use Rattle.dictionary.proofs.Names.{syntax_back}
use Rattle.dictionary.proofs.Public.{class_back}
use Rattle.dictionary.proofs.laws.identifiers_name_one.Goals as goal

pub returns-clause-classes : goal.returns-clause-classes
returns-clause-classes c = class_back

pub returns-clause-syntaxes : goal.returns-clause-syntaxes
returns-clause-syntaxes c = syntax_back
