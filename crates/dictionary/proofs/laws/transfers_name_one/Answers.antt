use Rattle.dictionary.proofs.Public.{named_text, native_layout, native_same, native_uid, not_named, transfer_back}
use Rattle.dictionary.proofs.laws.transfers_name_one.Goals as goal

pub returns-clause-names : goal.returns-clause-names
returns-clause-names c = transfer_back

pub returns-clause-native : goal.returns-clause-native
returns-clause-native c = native_same

pub returns-clause-uids : goal.returns-clause-uids
returns-clause-uids c = native_uid

pub returns-clause-layouts : goal.returns-clause-layouts
returns-clause-layouts c = native_layout

pub returns-clause-texts : goal.returns-clause-texts
returns-clause-texts c = named_text

pub returns-clause-others : goal.returns-clause-others
returns-clause-others c = not_named
