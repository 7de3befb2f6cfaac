-- The values that are kept of an accepted request.
use Rattle.pdu.specs.Record.{RequestRecord}
use Rattle.engine.specs.declared.phase.Peer.{Peer}
use Rattle.engine.specs.Kept.{Agreed}
use Rattle.negotiate.specs.Allowed.{Allowed}

-- the peer has the values of this request, with the storage classes `additional` added to those of the dictionary
abbrev pub IsPeerOf : Peer → Allowed → RequestRecord → Type 0
IsPeerOf peer additional r = Agreed peer.caller peer.max_length peer.contexts.items additional r
