-- Responses to C-ECHO and C-STORE (PS3.7 sections 9.3.1.2, 9.3.5.2 and annex E), and how their command sets are
-- divided into P-DATA-TF PDUs of one presentation data value each (PS3.8 annex D.1 and annex E).
use Rattle.std.specs.Prelude.{◌≡◌, ℕ, zero, suc, ◌+◌, ◌-◌, ◌*◌, ◌/◌, ◌≤◌, ◌⊎◌, true, false, ◌&&◌, ◌||◌, List, [], ◌∷◌, ◌++◌, length, take, drop, Option, Some, None, nat_eq, nat_le, if◌then◌else◌}
use Rattle.element.specs.declared.tag.Tag.{Tag}
use Rattle.element.specs.Numbers.{le}
use Rattle.element.specs.Uid.{even_uid}
use Rattle.pdu.specs.Pieces.{joined}
use Rattle.pdu.specs.Sizes.{pdv_head_size}
use Rattle.pdu.specs.Texts.{data_text}
use Rattle.dimse.specs.declared.detail.Detail.{Detail}
use Rattle.dimse.specs.Command.{CommandElement, CommandRecord, command_set_bytes, c_store, no_data_set, class_element, field_element, answered_element, type_element, status_element, offending_element, comment_element, instance_element}
use Rattle.dimse.specs.Status.{data_set_mismatch, cannot_understand}
use Rattle.dimse.specs.Detail.{comment_of}

-- the element of this number and value
abbrev pub element : ℕ → List ℕ → CommandElement
element number value = record { number = number; value = value }

-- Affected SOP Instance UID (0000,1000) of a C-STORE
-- e.g. instance_elements None ≡ []
abbrev pub instance_elements : Option (List ℕ) → List CommandElement
instance_elements None = []
instance_elements (Some uid) = element instance_element (even_uid uid) ∷ []

-- Offending Element (0000,0901), left out if the tag is (0000,0000)
-- e.g. tag_elements (record { 0 = 0; 1 = 0 }) ≡ []
abbrev pub tag_elements : Tag → List CommandElement
tag_elements tag = if nat_eq tag.0 0 && nat_eq tag.1 0 then [] else element offending_element (le tag.0 2 ++ le tag.1 2) ∷ []

-- Offending Element (0000,0901) and Error Comment (0000,0902) of a cause; neither if the cause has no name
-- e.g. detail_elements None ≡ []
abbrev pub detail_elements : Option Detail → List CommandElement
detail_elements None = []
detail_elements (Some detail) = elim (comment_of detail.number) [
  | None ↦ []
  | Some text ↦ tag_elements detail.tag ++ element comment_element text ∷ []
]

-- the cause that a response reports: only that to a C-STORE with status C000 or A900 does
-- e.g. detail_carried c_echo 0 None ≡ None
abbrev pub detail_carried : ℕ → ℕ → Option Detail → Option Detail
detail_carried field status detail =
    if nat_eq field c_store && (nat_eq status cannot_understand || nat_eq status data_set_mismatch) then detail else None

-- the highest bit of a command field, which marks a response
abbrev pub response : ℕ
response = 0x8000

-- The elements of a response: Affected SOP Class UID (0000,0002), Command Field (0000,0100) with its highest bit set,
-- Message ID Being Responded To (0000,0120), Command Data Set Type (0000,0800) for none, Status (0000,0900), the
-- cause of a failure, and of a C-STORE Affected SOP Instance UID (0000,1000).
-- e.g. length (reply_elements (record { class = codes "1.2"; field = 0x0030; message = 7; with_data = false; instance =
-- None }) 0 None) ≡ 5
abbrev pub reply_elements : CommandRecord → ℕ → Option Detail → List CommandElement
reply_elements command status detail =
    element class_element (even_uid command.class) ∷ element field_element (le (command.field + response) 2) ∷ element answered_element (le command.message 2)
    ∷ element type_element (le no_data_set 2) ∷ element status_element (le status 2)
    ∷ (detail_elements (detail_carried command.field status detail) ++ instance_elements command.instance)

-- the command set of the response (law `dimse::worked_responses`)
unfoldable pub reply_command : CommandRecord → ℕ → Option Detail → List ℕ
reply_command command status detail = command_set_bytes (reply_elements command status detail)

-- a maximum length that allows fragments of two bytes or more; 0 stands for no maximum
abbrev pub IsMaximum : ℕ → Type 0
IsMaximum maximum = (maximum ≡ 0) ⊎ (8 ≤ maximum)

-- the size of a fragment: the greatest even number of bytes that fits the peer's maximum length, which counts the 6
-- of the presentation data value's head too; without a maximum, that of the whole command set
-- e.g. fragment_size 16384 100 ≡ 16378; fragment_size 9 100 ≡ 2; fragment_size 0 100 ≡ 100
abbrev pub fragment_size : ℕ → ℕ → ℕ
fragment_size maximum all = if nat_eq maximum 0 then all else ((maximum - pdv_head_size) / 2 * 2)

-- fragments of this size, of which only the last may be shorter; it is empty only if it is the only one
abbrev pub HaveSize : ℕ → List (List ℕ) → Type 0
HaveSize size [] = ⊥
HaveSize size (last ∷ []) = length last ≤ size
HaveSize size (fragment ∷ next ∷ more) = (length fragment ≡ size) × (1 ≤ length next) × HaveSize size (next ∷ more)

-- the bytes divided into fragments of this size
pub record IsFragmented (size : ℕ) (text : List ℕ) (cut : List (List ℕ)) : Type 0 where
  pub whole : text ≡ joined cut
  pub sizes : HaveSize size cut

-- the fragments of these bytes: at most `more` of this size, and a last one
-- e.g. fragments_in 3 2 (1 ∷ 2 ∷ 3 ∷ []) ≡ (1 ∷ 2 ∷ []) ∷ (3 ∷ []) ∷ []
abbrev pub fragments_in : ℕ → ℕ → List ℕ → List (List ℕ)
fragments_in zero size text = text ∷ []
fragments_in (suc more) size text = if nat_le (length text) size then text ∷ [] else (take size text ∷ fragments_in more size (drop size text))

-- the bytes divided into fragments of this size, of which the last may be shorter
-- e.g. fragments 2 (1 ∷ 2 ∷ 3 ∷ []) ≡ (1 ∷ 2 ∷ []) ∷ (3 ∷ []) ∷ []
unfoldable pub fragments : ℕ → List ℕ → List (List ℕ)
fragments size text = fragments_in (length text) size text

-- the P-DATA-TF PDUs of the fragments of a command set, of which the last is marked as the last
-- e.g. command_pdus 1 ((9 ∷ []) ∷ []) ≡ 4 ∷ 0 ∷ 0 ∷ 0 ∷ 0 ∷ 7 ∷ 0 ∷ 0 ∷ 0 ∷ 3 ∷ 1 ∷ 3 ∷ 9 ∷ []
abbrev pub command_pdus : ℕ → List (List ℕ) → List ℕ
command_pdus context [] = []
command_pdus context (fragment ∷ []) = data_text context true true fragment
command_pdus context (fragment ∷ next ∷ more) = data_text context true false fragment ++ command_pdus context (next ∷ more)

-- the bytes of a response, as they are sent: its P-DATA-TF PDUs (law `engine::recorded_echo`)
unfoldable pub reply_bytes : CommandRecord → ℕ → Option Detail → ℕ → ℕ → List ℕ
reply_bytes command status detail context maximum =
    let set = reply_command command status detail in
    command_pdus context (fragments (fragment_size maximum (length set)) set)
