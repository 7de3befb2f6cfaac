-- The types of PDUs (PS3.8 sections 9.3.2 to 9.3.8) and of the items and sub-items of an A-ASSOCIATE-RQ and an
-- A-ASSOCIATE-AC (PS3.8 sections 9.3.2 and 9.3.3, annex D.1; PS3.7 annex D.3.3.2).
use Rattle.std.specs.Prelude.{ℕ}

-- ---- PDUs

-- the type of an A-ASSOCIATE-RQ PDU
abbrev pub associate_rq : ℕ
associate_rq = 0x01

-- the type of an A-ASSOCIATE-AC PDU
abbrev pub associate_ac : ℕ
associate_ac = 0x02

-- the type of an A-ASSOCIATE-RJ PDU
abbrev pub associate_rj : ℕ
associate_rj = 0x03

-- the type of a P-DATA-TF PDU
abbrev pub p_data_tf : ℕ
p_data_tf = 0x04

-- the type of an A-RELEASE-RQ PDU
abbrev pub release_rq : ℕ
release_rq = 0x05

-- the type of an A-RELEASE-RP PDU
abbrev pub release_rp : ℕ
release_rp = 0x06

-- the type of an A-ABORT PDU
abbrev pub abort : ℕ
abort = 0x07

-- ---- items and sub-items

-- the type of the application context item
abbrev pub application_context_item : ℕ
application_context_item = 0x10

-- the type of a proposed presentation context item
abbrev pub proposed_context_item : ℕ
proposed_context_item = 0x20

-- the type of a presentation context item of an A-ASSOCIATE-AC
abbrev pub answered_context_item : ℕ
answered_context_item = 0x21

-- the type of an abstract syntax sub-item
abbrev pub abstract_syntax_item : ℕ
abstract_syntax_item = 0x30

-- the type of a transfer syntax sub-item
abbrev pub transfer_syntax_item : ℕ
transfer_syntax_item = 0x40

-- the type of the user information item
abbrev pub user_information_item : ℕ
user_information_item = 0x50

-- the type of the maximum length sub-item
abbrev pub maximum_length_item : ℕ
maximum_length_item = 0x51

-- the type of the implementation class UID sub-item
abbrev pub implementation_class_item : ℕ
implementation_class_item = 0x52

-- the type of the implementation version name sub-item
abbrev pub implementation_version_item : ℕ
implementation_version_item = 0x55
