use Rattle.std.proofs.Common.{refl}
use Rattle.dimse.specs.Command.{store_command, command_of}
use Rattle.dimse.specs.Reading.{element_at, elements_in, elements_of, set_of, command_in}
use Rattle.dimse.proofs.laws.worked_commands.Goals as goal

pub returns-clause-read : goal.returns-clause-read
unfolding store_command command_of element_at elements_in elements_of set_of command_in
returns-clause-read c = refl

pub returns-clause-other_count : goal.returns-clause-other_count
unfolding store_command command_of element_at elements_in elements_of set_of command_in
returns-clause-other_count c = refl

pub returns-clause-other_field : goal.returns-clause-other_field
unfolding store_command command_of element_at elements_in elements_of set_of command_in
returns-clause-other_field c = refl

pub returns-clause-with_data : goal.returns-clause-with_data
unfolding store_command command_of element_at elements_in elements_of set_of command_in
returns-clause-with_data c = refl
