use Rattle.std.proofs.Common.{refl}
use Rattle.element.specs.Vr.{is_short}
use Rattle.dimse.specs.Command.{command_element_bytes}
use Rattle.dimse.specs.Reply.{reply_command, fragments, reply_bytes}
use Rattle.dimse.proofs.laws.worked_responses.Goals as goal

pub returns-clause-one : goal.returns-clause-one
unfolding is_short command_element_bytes reply_command fragments reply_bytes
returns-clause-one c = refl

pub returns-clause-many : goal.returns-clause-many
unfolding is_short command_element_bytes reply_command fragments reply_bytes
returns-clause-many c = refl

pub returns-clause-first : goal.returns-clause-first
unfolding is_short command_element_bytes reply_command fragments reply_bytes
returns-clause-first c = refl

pub returns-clause-last : goal.returns-clause-last
unfolding is_short command_element_bytes reply_command fragments reply_bytes
returns-clause-last c = refl

pub returns-clause-odd : goal.returns-clause-odd
unfolding is_short command_element_bytes reply_command fragments reply_bytes
returns-clause-odd c = refl

pub returns-clause-greatest : goal.returns-clause-greatest
unfolding is_short command_element_bytes reply_command fragments reply_bytes
returns-clause-greatest c = refl

pub returns-clause-store : goal.returns-clause-store
unfolding is_short command_element_bytes reply_command fragments reply_bytes
returns-clause-store c = refl
