-- One CT store is filed (`a_store_is_filed`); not so where the filing fails or the connection closes (`a_filing_fails_once`,
-- `a_close_in_a_data_set`), and it stays where its reply is cut (`a_cut_reply`). Stands on the definitions alone.
use Rattle.std.proofs.Common.{refl}
use Rattle.element.specs.Vr.{is_short}
use Rattle.dictionary.specs.Classes.{class_named}
use Rattle.dictionary.specs.Syntaxes.{syntax_named}
use Rattle.dictionary.specs.Transfers.{transfer_named}
use Rattle.dimse.specs.Command.{command_element_bytes, store_command, command_of}
use Rattle.dimse.specs.Reading.{element_at, elements_in, elements_of, set_of, command_in}
use Rattle.dimse.specs.Reply.{reply_command, fragments, reply_bytes}
use Rattle.part10.specs.File.{identity_elements, implementation_elements, title_element}
use Rattle.pdu.specs.Items.{items_of, remainder}
use Rattle.pdu.specs.Marks.{pdv_marks}
use Rattle.pdu.specs.Pdvs.{data_spot}
use Rattle.pdu.specs.Pieces.{pieces_of}
use Rattle.pdu.specs.Refusal.{item_fault, items_fault}
use Rattle.pdu.specs.Spot.{spot}
use Rattle.engine.specs.StoreExamples.{AStoreIsFiled, AFilingFailsOnce, ACutReply, ACloseInADataSet, HeldInADataSet}

pub a_store_is_filed : AStoreIsFiled
unfolding pieces_of items_of remainder item_fault items_fault class_named syntax_named transfer_named is_short command_element_bytes store_command command_of element_at elements_in elements_of set_of command_in reply_command fragments reply_bytes identity_elements implementation_elements title_element
a_store_is_filed = (refl, refl, refl)

pub a_filing_fails_once : AFilingFailsOnce
unfolding pieces_of items_of remainder item_fault items_fault class_named syntax_named transfer_named is_short command_element_bytes store_command command_of element_at elements_in elements_of set_of command_in reply_command fragments reply_bytes identity_elements implementation_elements title_element
a_filing_fails_once = ((refl, refl, refl), refl)

pub a_cut_reply : ACutReply
unfolding pieces_of items_of remainder item_fault items_fault class_named syntax_named transfer_named is_short command_element_bytes store_command command_of element_at elements_in elements_of set_of command_in reply_command fragments reply_bytes identity_elements implementation_elements title_element
a_cut_reply = ((refl, refl, refl), refl)

pub a_close_in_a_data_set : ACloseInADataSet
unfolding pieces_of items_of remainder item_fault items_fault class_named syntax_named transfer_named is_short command_element_bytes store_command command_of element_at elements_in elements_of set_of command_in reply_command fragments reply_bytes identity_elements implementation_elements title_element
a_close_in_a_data_set = (refl, refl, refl)

pub held_in_a_data_set : HeldInADataSet
unfolding pieces_of items_of remainder item_fault items_fault class_named syntax_named transfer_named is_short command_element_bytes store_command command_of element_at elements_in elements_of set_of command_in reply_command fragments reply_bytes identity_elements implementation_elements title_element pdv_marks spot data_spot
held_in_a_data_set = (refl, refl)
