-- What an acceptor reads of an A-ASSOCIATE-RQ (PS3.8 section 9.3.2), and what a requestor reads of the response to a C-STORE
-- (PS3.7 section 9.3.1.2).
use Rattle.std.specs.Prelude.{◌≡◌, ◌+◌, ◌≤◌, ◌<◌, ◌^◌, ℕ, true, eqb, List, [], ◌∷◌, length, map, replicate, Option, Ok}
use Rattle.std.specs.List.{AllByRecursion, IsDistinct}
use Rattle.element.specs.Uid.{is_uid}
use Rattle.dictionary.specs.Syntaxes.{application_context}
use Rattle.dictionary.specs.Transfers.{transfer_uid}
use Rattle.pdu.specs.Record.{Proposal, RequestRecord}
use Rattle.pdu.specs.Request.{RequestText}
use Rattle.pdu.specs.Sizes.{title_size}
use Rattle.dimse.specs.Command.{CommandRecord, c_store}
use Rattle.dimse.specs.Reading.{command_in}
use Rattle.dimse.specs.Reply.{reply_bytes, response}
use Rattle.dimse.specs.declared.detail.Detail.{Detail}
use Rattle.sending.specs.declared.context.StorageContext.{StorageContext}
use Rattle.sending.specs.Requesting.{context_id, request_body}
use Rattle.sending.specs.Sending.{IsResponse}

-- the presentation context, as an acceptor reads it
abbrev pub proposal_of : StorageContext → Proposal
proposal_of c = record { id = context_id c.index; abstract_syntax = c.class; transfer_syntaxes = transfer_uid c.syntax ∷ [] }

-- the request of these titles and presentation contexts, as an acceptor reads it
abbrev pub request_of : (called calling : List ℕ) → List StorageContext → RequestRecord
request_of called calling contexts = record {
  version = 1;
  called = called;
  calling = calling;
  reserved = replicate 32 0;
  application_context = application_context;
  contexts = map proposal_of contexts;
  maximum = 16384;
}

-- presentation contexts that an association may propose: one at least, each of an SOP class, with an index of its own
pub record AreProposable (contexts : List StorageContext) : Type 0 where
  pub some : 1 ≤ length contexts
  pub classes : AllByRecursion (λ c. is_uid c.class ≡ true) contexts
  pub indexes : IsDistinct eqb (map (λ c. c.index) contexts)

-- the request is read as exactly its titles and its presentation contexts, in their order
abbrev pub RequestsAreRead : Type 0
RequestsAreRead = (called calling : List ℕ) (contexts : List StorageContext) → length called ≡ title_size → length calling ≡ title_size
    → AreProposable contexts → RequestText (request_of called calling contexts) (request_body called calling contexts)

-- the response that an acceptor sends to a C-STORE is read as its status, of this message
abbrev pub ResponsesAreRead : Type 0
ResponsesAreRead = (text : List ℕ) (command : CommandRecord) (status : ℕ) (detail : Option Detail) (context : ℕ)
    → command_in text ≡ Ok command → command.field ≡ c_store → command.message < 2 ^ 16 → status < 2 ^ 16
    → IsResponse (c_store + response) context command.message status (reply_bytes command status detail context 16384)
