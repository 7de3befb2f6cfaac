-- What a C-STORE and a C-ECHO send, and what answers them (PS3.7 sections 9.1.1, 9.1.5, 9.3.1 and 9.3.5; PS3.8 section
-- 9.3.5 and annex E).
use Rattle.std.specs.Prelude.{◌≡◌, ◌+◌, ◌/◌, ℕ, Bool, true, false, ◌||◌, List, [], ◌∷◌, ◌++◌, length, Some, Ok, nat_eq}
use Rattle.std.specs.List.{flat_map}
use Rattle.element.specs.Numbers.{le}
use Rattle.element.specs.Uid.{even_uid}
use Rattle.dictionary.specs.Classes.{class_uid}
use Rattle.dictionary.specs.declared.class.Class.TheVariants.{Verification}
use Rattle.pdu.specs.Pieces.{joined}
use Rattle.pdu.specs.Heads.{pdu_head_of, pdv_head_of}
use Rattle.pdu.specs.Texts.{data_text}
use Rattle.pdu.specs.Types.{p_data_tf}
use Rattle.dimse.specs.Command.{CommandElement, command_element_bytes, command_elements_bytes, command_value, needed, two_bytes, class_element, field_element, message_element, answered_element, type_element, status_element, instance_element, no_data_set, c_echo, c_store}
use Rattle.dimse.specs.Reading.{set_of}
use Rattle.dimse.specs.Reply.{element, response}
use Rattle.part10.specs.MetaText.{MetaValues, SpellsMeta}

-- (0000,0700) Priority
abbrev pub priority_element : ℕ
priority_element = 0x0700

-- the elements of a C-STORE-RQ of medium priority after Command Group Length
abbrev pub store_elements : (class instance : List ℕ) → ℕ → List ℕ
store_elements class instance message = command_elements_bytes
    (element class_element (even_uid class) ∷ element field_element (le c_store 2) ∷ element message_element (le message 2)
    ∷ element priority_element (le 0 2) ∷ element type_element (le 1 2) ∷ element instance_element (even_uid instance) ∷ [])

-- the command set of these elements
abbrev pub with_length : List ℕ → List ℕ
with_length elements = command_element_bytes (element 0 (le (length elements) 4)) ++ elements

-- the command set of a C-STORE-RQ
unfoldable pub store_set : (class instance : List ℕ) → ℕ → List ℕ
store_set class instance message = with_length (store_elements class instance message)

-- the command set of a C-ECHO-RQ
unfoldable pub echo_set : ℕ → List ℕ
echo_set message = with_length (command_elements_bytes
    (element class_element (even_uid (class_uid Verification)) ∷ element field_element (le c_echo 2) ∷ element message_element (le message 2)
    ∷ element type_element (le no_data_set 2) ∷ []))

-- the bytes are sent in fragments, each in a P-DATA-TF PDU of its own, of which the last is marked as the last
pub record InFragments (context : ℕ) (command : Bool) (text sent : List ℕ) : Type 0 where
  pub parts : List (List ℕ)
  pub last : List ℕ
  pub whole : text ≡ joined parts ++ last
  pub pdus : sent ≡ flat_map (data_text context command false) parts ++ data_text context command true last

-- the command set is a response with this command field to this message, with this status
pub record IsResponseSet (answer : ℕ) (set : List ℕ) (message status : ℕ) : Type 0 where
  pub elements : List CommandElement
  pub read : set_of set ≡ Some elements
  pub field : needed two_bytes (command_value field_element elements) ≡ Ok answer
  pub answered : needed two_bytes (command_value answered_element elements) ≡ Ok message
  pub reports : needed two_bytes (command_value status_element elements) ≡ Ok status

-- these bytes are a response with this command field to this message, with this status, in one P-DATA-TF PDU
pub record IsResponse (answer context message status : ℕ) (received : List ℕ) : Type 0 where
  pub head : List ℕ
  pub pdv : List ℕ
  pub set : List ℕ
  pub whole : received ≡ head ++ (pdv ++ set)
  pub of_pdu : pdu_head_of head ≡ record { kind = p_data_tf; length = length set + 6 }
  pub of_pdv : pdv_head_of pdv ≡ record { length = length set + 2; context = context; command = true; last = true }
  pub says : IsResponseSet answer set message status

-- what was sent is the C-STORE of this instance with this data set, and what was received is the response to it
pub record IsAnswered (class instance content sent received : List ℕ) (status : ℕ) : Type 0 where
  pub context : ℕ
  pub message : ℕ
  pub commands : List ℕ
  pub sets : List ℕ
  pub whole : sent ≡ commands ++ sets
  pub command : InFragments context true (store_set class instance message) commands
  pub set : InFragments context false content sets
  pub response : IsResponse (c_store + response) context message status received

-- ---- the parts of a C-STORE, by what was read of the file and written and received on the connection before and after

-- the data set that begins with `first` and goes on in the file was sent
pub record SendsData (context : ℕ) (first read0 read written0 written : List ℕ) : Type 0 where
  pub more : List ℕ
  pub sets : List ℕ
  pub taken : read ≡ read0 ++ more
  pub sent : written ≡ written0 ++ sets
  pub fragments : InFragments context false (first ++ more) sets

-- the response with this command field was received
pub record Receives (answer context message status : ℕ) (received0 received : List ℕ) : Type 0 where
  pub bytes : List ℕ
  pub got : received ≡ received0 ++ bytes
  pub response : IsResponse answer context message status bytes

-- the instance was sent, and answered with this status
pub record Stores (class instance first read0 read written0 written received0 received : List ℕ) (status : ℕ) : Type 0 where
  pub more : List ℕ
  pub sent : List ℕ
  pub bytes : List ℕ
  pub taken : read ≡ read0 ++ more
  pub wrote : written ≡ written0 ++ sent
  pub got : received ≡ received0 ++ bytes
  pub answered : IsAnswered class instance (first ++ more) sent bytes status

-- a C-ECHO was sent, and the response to it received, with this status
pub record Echoes (written0 written received0 received : List ℕ) (status : ℕ) : Type 0 where
  pub context : ℕ
  pub message : ℕ
  pub sent : written ≡ written0 ++ data_text context true true (echo_set message)
  pub answered : Receives (c_echo + response) context message status received0 received

-- The bytes of a file are a file header and a data set; the C-STORE of the instance that the header names was sent with
-- exactly this data set, and was answered with this status.
pub record IsHandedOver (file sent received : List ℕ) (status : ℕ) : Type 0 where
  pub said : MetaValues
  pub header : List ℕ
  pub content : List ℕ
  pub whole : file ≡ header ++ content
  pub spelled : SpellsMeta said header
  pub answered : IsAnswered said.class said.instance content sent received status

-- the statuses with which a peer has filed the instance: success, and the warnings of PS3.4 table B.2-1
abbrev pub is_filed : ℕ → Bool
is_filed status = nat_eq status 0 || (nat_eq status 0xb000 || (nat_eq status 0xb006 || nat_eq status 0xb007))

-- The statuses with which a peer refuses the instance for good: A9xx and Cxxx (PS3.4 table B.2-1), and 01xx (PS3.7 annex C).
abbrev pub is_refused : ℕ → Bool
is_refused status = (nat_eq (status / 256) 0xa9 || nat_eq (status / 256) 0x01) || nat_eq (status / 4096) 0xc
