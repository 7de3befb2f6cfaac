use Rattle.dimse.proofs.FragmentsMakeTheMessage.{message_is, messages_then}
use Rattle.dimse.proofs.FragmentsAreInOrder.{begins_with}
use Rattle.dimse.proofs.laws.messages_are_joined.Goals as goal

pub returns-clause-message : goal.returns-clause-message
returns-clause-message c = message_is

pub returns-clause-continued : goal.returns-clause-continued
returns-clause-continued c = messages_then

pub returns-clause-only : goal.returns-clause-only
returns-clause-only c = begins_with
