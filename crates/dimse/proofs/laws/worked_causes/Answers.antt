use Rattle.std.proofs.Common.{refl}
use Rattle.element.specs.Vr.{is_short}
use Rattle.dimse.specs.Command.{command_element_bytes}
use Rattle.dimse.specs.Reply.{reply_command, fragments, reply_bytes}
use Rattle.dimse.proofs.laws.worked_causes.Goals as goal

pub returns-clause-overrun : goal.returns-clause-overrun
unfolding is_short command_element_bytes reply_command fragments reply_bytes
returns-clause-overrun c = refl

pub returns-clause-overrun_length : goal.returns-clause-overrun_length
unfolding is_short command_element_bytes reply_command fragments reply_bytes
returns-clause-overrun_length c = refl

pub returns-clause-undefined : goal.returns-clause-undefined
unfolding is_short command_element_bytes reply_command fragments reply_bytes
returns-clause-undefined c = refl

pub returns-clause-undefined_length : goal.returns-clause-undefined_length
unfolding is_short command_element_bytes reply_command fragments reply_bytes
returns-clause-undefined_length c = refl

pub returns-clause-instance : goal.returns-clause-instance
unfolding is_short command_element_bytes reply_command fragments reply_bytes
returns-clause-instance c = refl

pub returns-clause-instance_length : goal.returns-clause-instance_length
unfolding is_short command_element_bytes reply_command fragments reply_bytes
returns-clause-instance_length c = refl

pub returns-clause-class : goal.returns-clause-class
unfolding is_short command_element_bytes reply_command fragments reply_bytes
returns-clause-class c = refl

pub returns-clause-class_length : goal.returns-clause-class_length
unfolding is_short command_element_bytes reply_command fragments reply_bytes
returns-clause-class_length c = refl

pub returns-clause-other_status : goal.returns-clause-other_status
unfolding is_short command_element_bytes reply_command fragments reply_bytes
returns-clause-other_status c = refl

pub returns-clause-echo : goal.returns-clause-echo
unfolding is_short command_element_bytes reply_command fragments reply_bytes
returns-clause-echo c = refl
