use Rattle.std.proofs.Common.{refl}
use Rattle.dimse.specs.Command.{store_command, command_of}
use Rattle.dimse.specs.Reading.{element_at, elements_in, elements_of, set_of, command_in}
use Rattle.dimse.specs.Messages.{messages_from, messages}
use Rattle.dimse.proofs.laws.worked_messages.Goals as goal

pub returns-clause-whole : goal.returns-clause-whole
unfolding store_command command_of element_at elements_in elements_of set_of command_in messages_from messages
returns-clause-whole c = refl

pub returns-clause-other_context : goal.returns-clause-other_context
unfolding store_command command_of element_at elements_in elements_of set_of command_in messages_from messages
returns-clause-other_context c = refl

pub returns-clause-other_kind : goal.returns-clause-other_kind
unfolding store_command command_of element_at elements_in elements_of set_of command_in messages_from messages
returns-clause-other_kind c = refl

pub returns-clause-context_before_kind : goal.returns-clause-context_before_kind
unfolding store_command command_of element_at elements_in elements_of set_of command_in messages_from messages
returns-clause-context_before_kind c = refl

pub returns-clause-too_long : goal.returns-clause-too_long
unfolding store_command command_of element_at elements_in elements_of set_of command_in messages_from messages
returns-clause-too_long c = refl

pub returns-clause-with_set : goal.returns-clause-with_set
unfolding store_command command_of element_at elements_in elements_of set_of command_in messages_from messages
returns-clause-with_set c = refl

pub returns-clause-command_in_set : goal.returns-clause-command_in_set
unfolding store_command command_of element_at elements_in elements_of set_of command_in messages_from messages
returns-clause-command_in_set c = refl

pub returns-clause-unreadable : goal.returns-clause-unreadable
unfolding store_command command_of element_at elements_in elements_of set_of command_in messages_from messages
returns-clause-unreadable c = refl
