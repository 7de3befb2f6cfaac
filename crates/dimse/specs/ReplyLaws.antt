-- The bounds of responses, and their command sets as they are read.
use Rattle.std.specs.Prelude.{◌≡◌, ◌^◌, ◌+◌, ◌<◌, ◌≤◌, ◌⊎◌, ℕ, true, false, List, ◌++◌, Option, Some, Ok, length, take, drop}
use Rattle.pdu.specs.Texts.{data_text}
use Rattle.dimse.specs.Command.{CommandRecord, c_echo, c_store, command_value, field_element, needed, status_element, two_bytes}
use Rattle.dimse.specs.Reading.{command_in, set_of}
use Rattle.dimse.specs.declared.detail.Detail.{Detail}
use Rattle.dimse.specs.Reply.{IsMaximum, command_pdus, fragments, reply_bytes, reply_command, reply_elements, response}

-- the bound of a response to a peer whose maximum length is 0 or allows fragments of two bytes
abbrev pub RepliesAreShort : Type 0
RepliesAreShort = (text : List ℕ) (command : CommandRecord) (status : ℕ) (detail : Option Detail) (context maximum : ℕ)
    → command_in text ≡ Ok command → IsMaximum maximum → length (reply_bytes command status detail context maximum) ≤ 1706

-- the bound of a response to any peer
abbrev pub EachReplyHasABound : Type 0
EachReplyHasABound = (text : List ℕ) (command : CommandRecord) (status : ℕ) (detail : Option Detail) (context maximum : ℕ)
    → command_in text ≡ Ok command → length (reply_bytes command status detail context maximum) ≤ 3158

-- the command set of a response reads back as the elements that it was made of
abbrev pub ResponsesReadBack : Type 0
ResponsesReadBack = (text : List ℕ) (command : CommandRecord) (status : ℕ) (detail : Option Detail)
    → command_in text ≡ Ok command → set_of (reply_command command status detail) ≡ Some (reply_elements command status detail)

-- the first PDU of a response that is longer than a fragment, and the PDUs after it
abbrev pub LongerResponses : Type 0
LongerResponses = (context size : ℕ) (text : List ℕ) → 1 ≤ size → size < length text
    → command_pdus context (fragments size text) ≡ data_text context true false (take size text) ++ command_pdus context (fragments size (drop size text))

-- the PDU of a response that is not longer than a fragment
abbrev pub LastResponses : Type 0
LastResponses = (context size : ℕ) (text : List ℕ) → length text ≤ size → command_pdus context (fragments size text) ≡ data_text context true true text

-- a command is a C-ECHO or a C-STORE, and its response has its field, with the highest bit set
abbrev pub ResponsesKeepTheField : Type 0
ResponsesKeepTheField = (text : List ℕ) (command : CommandRecord) (status : ℕ) (detail : Option Detail) → command_in text ≡ Ok command
    → ((command.field ≡ c_echo) ⊎ (command.field ≡ c_store)) × (needed two_bytes (command_value field_element (reply_elements command status detail)) ≡ Ok (command.field + response))

-- a response has its status
abbrev pub ResponsesKeepTheStatus : Type 0
ResponsesKeepTheStatus = (command : CommandRecord) (status : ℕ) (detail : Option Detail) → status < 2 ^ 16
    → needed two_bytes (command_value status_element (reply_elements command status detail)) ≡ Ok status
