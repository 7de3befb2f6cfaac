-- The answer's bytes: A-ASSOCIATE-AC (PS3.8 section 9.3.3 and annex D.1, PS3.7 annex D.3.3.2) or A-ASSOCIATE-RJ (PS3.8
-- section 9.3.4). Reserved bytes are zeros.
use Rattle.std.specs.Prelude.{ℕ, ◌+◌, ◌*◌, List, ◌∷◌, ◌++◌, length}
use Rattle.std.specs.List.{flat_map}
use Rattle.element.specs.Numbers.{be}
use Rattle.dictionary.specs.Implementation.{implementation_class_uid, implementation_version_name}
use Rattle.dictionary.specs.Syntaxes.{application_context}
use Rattle.dictionary.specs.Transfers.{transfer_uid}
use Rattle.pdu.specs.Record.{RequestRecord, Proposal}
use Rattle.pdu.specs.Texts.{pdu_text, reject_text}
use Rattle.pdu.specs.Types.{associate_ac, application_context_item, answered_context_item, transfer_syntax_item, user_information_item, maximum_length_item, implementation_class_item, implementation_version_item}
use Rattle.negotiate.specs.declared.answer.Answer.{Answer}
use Rattle.negotiate.specs.declared.answer.Answer.TheVariants.{Accept, Reject}
use Rattle.negotiate.specs.Answer.{judged}
use Rattle.negotiate.specs.Contexts.{result_of, carried, offered}
use Rattle.negotiate.specs.Settings.{Settings}

-- type, reserved byte, length, content
-- e.g. item_text 81 (0 ∷ 0 ∷ 64 ∷ 0 ∷ []) ≡ 81 ∷ 0 ∷ 0 ∷ 4 ∷ 0 ∷ 0 ∷ 64 ∷ 0 ∷ []
abbrev pub item_text : ℕ → List ℕ → List ℕ
item_text kind content = kind ∷ 0 ∷ (be (length content) 2 ++ content)

-- 21H: id, reserved byte, result, reserved byte, and 40H with the transfer syntax
-- e.g. context_text (record { id = 1; abstract_syntax = codes "1.2.840.10008.1.1"; transfer_syntaxes = codes
-- "1.2.840.10008.1.2" ∷ [] }) ≡ 33 ∷ 0 ∷ 0 ∷ 25 ∷ 1 ∷ 0 ∷ 0 ∷ 0 ∷ 64 ∷ 0 ∷ 0 ∷ 17 ∷ codes "1.2.840.10008.1.2"
abbrev pub context_text : Proposal → List ℕ
context_text p = item_text answered_context_item (p.id ∷ 0 ∷ result_of p ∷ 0 ∷ item_text transfer_syntax_item (transfer_uid (carried p)))

-- 50H: 51H the greatest P-DATA length that is accepted; 52H and 55H the implementation's class and version name (this
-- product's own)
-- e.g. length (user_text 16384) ≡ 41
abbrev pub user_text : ℕ → List ℕ
user_text max_pdu =
    item_text user_information_item
    (item_text maximum_length_item (be max_pdu 4)
    ++ item_text implementation_class_item implementation_class_uid
    ++ item_text implementation_version_item implementation_version_name)

-- what stands before the contexts of an A-ASSOCIATE-AC: version 1, the titles and the 32 reserved bytes as in the
-- request, and 10H (law `engine::recorded_echo`)
abbrev pub before_contexts : RequestRecord → List ℕ
before_contexts r = 0 ∷ 1 ∷ 0 ∷ 0 ∷ (r.called ++ r.calling ++ r.reserved ++ item_text application_context_item application_context)

-- the body of an A-ASSOCIATE-AC: what stands before the contexts, a 21H for each proposed context in its order, and 50H
-- (law `engine::recorded_echo`)
abbrev pub accept_body : Settings → RequestRecord → List ℕ
accept_body s r = before_contexts r ++ flat_map context_text (offered s.additional r).contexts ++ user_text s.max_pdu

-- the A-ASSOCIATE-AC PDU (law `engine::recorded_echo`)
abbrev pub accept_text : Settings → RequestRecord → List ℕ
accept_text s r = pdu_text associate_ac (accept_body s r)

-- an A-ASSOCIATE-AC has so many bytes at most: 140, and 35 for each of 128 contexts
abbrev pub longest_accept : ℕ
longest_accept = 140 + 35 * 128

abbrev pub text_by : Answer → Settings → RequestRecord → List ℕ
text_by Accept s r = accept_text s r
text_by (Reject result source reason) s r = reject_text result source reason

-- the bytes of the answer to this request
abbrev pub answer_bytes : Settings → RequestRecord → List ℕ
answer_bytes s r = text_by (judged s r) s r
