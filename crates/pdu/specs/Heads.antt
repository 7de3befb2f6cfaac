-- The heads of PDUs (PS3.8 section 9.3.1) and of presentation data values (PS3.8 section 9.3.5.1 and annex E.2).
-- Numbers are big endian.
use Rattle.std.specs.Prelude.{ℕ, ◌%◌, ◌/◌, Bool, List, drop, get_or, nat_eq}
use Rattle.byteorder.specs.Endian.{big_number}
use Rattle.pdu.specs.declared.head.PduHead.{PduHead}
use Rattle.pdu.specs.declared.head.PdvHead.{PdvHead}
use Rattle.pdu.specs.Pdvs.{pdv_length, pdv_context, pdv_control}

-- the head of a PDU, from its six bytes: one byte type, one reserved, which is ignored, four bytes length
abbrev pub pdu_head_of : List ℕ → PduHead
pdu_head_of b = record { kind = get_or b 0 0; length = big_number 4 (drop 2 b) }

-- bit 0 of a control byte: the fragment is of a command; else of a data set
-- e.g. is_command 3 ≡ true; is_command 2 ≡ false
abbrev pub is_command : ℕ → Bool
is_command control = nat_eq (control % 2) 1

-- bit 1 of a control byte: the fragment is the last one. Bits 2 to 7 are ignored
-- e.g. is_last 2 ≡ true; is_last 1 ≡ false
abbrev pub is_last : ℕ → Bool
is_last control = nat_eq (control / 2 % 2) 1

-- the head of a presentation data value, from its six bytes: four bytes length of what follows them, one byte context
-- ID, one byte control
abbrev pub pdv_head_of : List ℕ → PdvHead
pdv_head_of b = record {
  length = pdv_length b;
  context = pdv_context b;
  command = is_command (pdv_control b);
  last = is_last (pdv_control b);
}
