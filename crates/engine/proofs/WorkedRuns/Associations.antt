-- The associations on which the definitions are tried have the bytes and states that they are to have (`recorded_echo` and
-- others). Stands on the definitions alone.
use Rattle.std.proofs.Common.{refl}
use Rattle.element.specs.Vr.{is_short}
use Rattle.dictionary.specs.Classes.{class_named}
use Rattle.dictionary.specs.Syntaxes.{syntax_named}
use Rattle.dictionary.specs.Transfers.{transfer_named}
use Rattle.dimse.specs.Command.{command_element_bytes, store_command, command_of}
use Rattle.dimse.specs.Reading.{element_at, elements_in, elements_of, set_of, command_in}
use Rattle.dimse.specs.Reply.{reply_command, fragments, reply_bytes}
use Rattle.pdu.specs.Frames.{frames_of, rest_of}
use Rattle.pdu.specs.Items.{items_of, remainder}
use Rattle.pdu.specs.Marks.{marks, new_marks, pdv_marks}
use Rattle.pdu.specs.Pieces.{pieces_of}
use Rattle.pdu.specs.Refusal.{item_fault, items_fault}
use Rattle.pdu.specs.Spot.{spot}
use Rattle.pdu.specs.Pdvs.{data_spot}
use Rattle.engine.specs.Examples.{ARequestAboveTheRoom, BytesThatAreNoPdu, DataAboveTheMaximum, AfterTheEnd, RecordedEcho, AnotherCalledTitle, HeldDuringTheEcho, AGoodPdvBeforeABadOne}

pub a_request_above_the_room : ARequestAboveTheRoom
unfolding frames_of rest_of pieces_of marks new_marks pdv_marks
a_request_above_the_room = ((refl, refl), (refl, refl))

pub bytes_that_are_no_pdu : BytesThatAreNoPdu
unfolding frames_of rest_of pieces_of marks new_marks pdv_marks
bytes_that_are_no_pdu = ((refl, refl), (refl, refl))

pub data_above_the_maximum : DataAboveTheMaximum
data_above_the_maximum = (refl, refl)

pub after_the_end : AfterTheEnd
after_the_end = (refl, refl, refl)

pub another_called_title : AnotherCalledTitle
unfolding frames_of rest_of pieces_of marks new_marks pdv_marks items_of remainder item_fault items_fault
another_called_title = (refl, refl)

pub recorded_echo : RecordedEcho
unfolding frames_of rest_of pieces_of marks new_marks pdv_marks items_of remainder item_fault items_fault class_named syntax_named transfer_named is_short command_element_bytes store_command command_of element_at elements_in elements_of set_of command_in reply_command fragments reply_bytes
recorded_echo = ((refl, refl), (refl, refl))

pub held_during_the_echo : HeldDuringTheEcho
unfolding frames_of rest_of pieces_of marks new_marks pdv_marks spot data_spot items_of remainder item_fault items_fault class_named syntax_named transfer_named is_short command_element_bytes store_command command_of element_at elements_in elements_of set_of command_in reply_command fragments reply_bytes
held_during_the_echo = (refl, refl, refl, refl, refl)

pub a_good_pdv_before_a_bad_one : AGoodPdvBeforeABadOne
unfolding frames_of rest_of pieces_of marks new_marks pdv_marks items_of remainder item_fault items_fault class_named syntax_named transfer_named is_short command_element_bytes store_command command_of element_at elements_in elements_of set_of command_in reply_command fragments reply_bytes
a_good_pdv_before_a_bad_one = ((refl, refl), (refl, refl))
