-- The response to a C-STORE that `dimse` writes is read as its status (`responses_read`). Stands on BufferHasFragment and the
-- laws of `dimse`.
use Rattle.std.proofs.Common.{◌≡◌, ◌<◌, ◌≤◌, ◌+◌, ◌^◌, ℕ, true, List, [], ◌∷◌, ◌++◌, length, Option, Some, Ok, refl, sym, ap, ◌∙◌, arith}
use Rattle.std.proofs.lemmas.List.{append-nil}
use Rattle.byteorder.specs.Endian.{big_number, little_number}
use Rattle.byteorder.specs.Numbers.{big_number-reads_back, little_number-reads_back}
use Rattle.element.specs.Numbers.{be, le}
use Rattle.pdu.specs.Texts.{data_text}
use Rattle.dimse.specs.declared.detail.Detail.{Detail}
use Rattle.dimse.specs.Command.{CommandRecord, c_store, needed, two_bytes}
use Rattle.dimse.specs.Reading.{command_in}
use Rattle.dimse.specs.Reply.{reply_bytes, reply_command, reply_elements, response}
use Rattle.dimse.proofs.Public.{field_again, pdus_last, reply_again, reply_bounded, status_again}
use Rattle.sending.specs.ReadBack.{ResponsesAreRead}
use Rattle.sending.specs.Sending.{IsResponseSet}
use Rattle.sending.proofs.BufferHasFragment.{data_parts}

number_again : (n : ℕ) → n < 2 ^ 16 → needed two_bytes (Some (le n 2)) ≡ Ok n
number_again n lt = let same : little_number 2 (le n 2) ≡ n = little_number-reads_back 2 n [] lt in rw same refl

four_again : (n : ℕ) → n < 2 ^ 32 → big_number 4 (be n 4) ≡ n
four_again n lt = ap (big_number 4) (sym (append-nil (be n 4))) ∙ big_number-reads_back 4 n [] lt

says : (text : List ℕ) (command : CommandRecord) (status : ℕ) (detail : Option Detail) → command_in text ≡ Ok command → command.field ≡ c_store
    → command.message < 2 ^ 16 → status < 2 ^ 16 → IsResponseSet (c_store + response) (reply_command command status detail) command.message status
says text command status detail e store message number = record {
  elements = reply_elements command status detail;
  read = reply_again text command status detail e;
  field = field_again text command status detail e ∙ ap (λ (field : ℕ). Ok (field + response)) store;
  answered = number_again command.message message;
  reports = status_again command status detail number;
}

in_one : (command : CommandRecord) (status : ℕ) (detail : Option Detail) (context : ℕ)
    → reply_bytes command status detail context 0 ≡ data_text context true true (reply_command command status detail)
unfolding reply_bytes
in_one command status detail context =
    let set = reply_command command status detail in
    pdus_last context (length set) set (omega arith)

short : (text : List ℕ) (command : CommandRecord) (status : ℕ) (detail : Option Detail) → command_in text ≡ Ok command
    → length (reply_command command status detail) ≤ 3158
short text command status detail e =
    omega (arith, reply_bounded text command status detail 0 0 e, ap length (in_one command status detail 0))

one_pdu : (text : List ℕ) (command : CommandRecord) (status : ℕ) (detail : Option Detail) (context : ℕ) → command_in text ≡ Ok command
    → reply_bytes command status detail context 16384 ≡ data_text context true true (reply_command command status detail)
unfolding reply_bytes
one_pdu text command status detail context e =
    pdus_last context 16378 (reply_command command status detail) (omega (arith, short text command status detail e))

pub responses_read : ResponsesAreRead
responses_read text command status detail context e store message number =
    let set = reply_command command status detail in
    let few = short text command status detail e in
    let of_body : big_number 4 (be (length set + 6) 4) ≡ length set + 6 = four_again (length set + 6) (omega (arith, few)) in
    let of_value : big_number 4 (be (length set + 2) 4) ≡ length set + 2 = four_again (length set + 2) (omega (arith, few)) in
    record {
      head = 4 ∷ 0 ∷ be (length set + 6) 4;
      pdv = be (length set + 2) 4 ++ context ∷ 3 ∷ [];
      set = set;
      whole =
          one_pdu text command status detail context e
          ∙ sym (data_parts context true true set (4 ∷ 0 ∷ (be (length set + 6) 4 ++ (be (length set + 2) 4 ++ context ∷ 3 ∷ []))) refl);
      of_pdu = rw of_body refl;
      of_pdv = rw of_value refl;
      says = says text command status detail e store message number;
    }
