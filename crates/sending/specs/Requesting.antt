-- The A-ASSOCIATE-RQ for storage (PS3.8 section 9.3.2).
use Rattle.std.specs.Prelude.{ℕ, ◌+◌, ◌*◌, List, ◌∷◌, ◌++◌, replicate}
use Rattle.std.specs.List.{flat_map}
use Rattle.dictionary.specs.Transfers.{transfer_uid}
use Rattle.dictionary.specs.Syntaxes.{application_context}
use Rattle.pdu.specs.Types.{associate_rq, application_context_item, proposed_context_item, abstract_syntax_item, transfer_syntax_item}
use Rattle.pdu.specs.Texts.{pdu_text}
use Rattle.negotiate.specs.Accept.{item_text, user_text}
use Rattle.sending.specs.declared.context.StorageContext.{StorageContext}

-- the ID of the presentation context with this index
abbrev pub context_id : ℕ → ℕ
context_id index = 2 * index + 1

-- 20H: the ID, three reserved bytes, 30H with the SOP class, and 40H with the only transfer syntax
abbrev pub proposal_text : StorageContext → List ℕ
proposal_text c =
    item_text proposed_context_item
    (context_id c.index ∷ 0 ∷ 0 ∷ 0 ∷ (item_text abstract_syntax_item c.class ++ item_text transfer_syntax_item (transfer_uid c.syntax)))

-- 10H, a 20H for each presentation context in their order, and 50H: P-DATA-TF PDUs of up to 16,384 bytes are received
abbrev pub request_items : List StorageContext → List ℕ
request_items contexts = item_text application_context_item application_context ++ (flat_map proposal_text contexts ++ user_text 16384)

-- protocol version 1, the titles, 32 reserved bytes, and the items
abbrev pub request_body : (called calling : List ℕ) → List StorageContext → List ℕ
request_body called calling contexts = 0 ∷ 1 ∷ 0 ∷ 0 ∷ (called ++ (calling ++ (replicate 32 0 ++ request_items contexts)))

-- the A-ASSOCIATE-RQ
abbrev pub request_text : (called calling : List ℕ) → List StorageContext → List ℕ
request_text called calling contexts = pdu_text associate_rq (request_body called calling contexts)
