-- What the crates above cite of this crate's lemmas: the laws of `dimse::laws`, which are their contracts, in the words of
-- the definitions alone.
use Rattle.std.proofs.Common.{◌≡◌, ℕ, ◌+◌, ◌^◌, ◌<◌, ◌≤◌, ◌⊎◌, true, false, List, ◌++◌, length, take, drop, Option, Some, Ok}
use Rattle.dimse.specs.declared.detail.Detail.{Detail}
use Rattle.pdu.specs.Texts.{data_text}
use Rattle.dimse.specs.Command.{CommandRecord, c_echo, c_store, command_value, field_element, needed, status_element, two_bytes}
use Rattle.dimse.specs.Reading.{command_in, set_of}
use Rattle.dimse.specs.Reply.{command_pdus, fragments, reply_bytes, reply_command, reply_elements, response}
use Rattle.dimse.proofs.RepliesStayShort as length_of
use Rattle.dimse.proofs.PdusCarryFragments as pdus
use Rattle.dimse.proofs.ReadBack as back

pub reply_bounded : (text : List ℕ) (command : CommandRecord) (status : ℕ) (detail : Option Detail) (context maximum : ℕ)
    → command_in text ≡ Ok command → length (reply_bytes command status detail context maximum) ≤ 3158
reply_bounded = length_of.reply_bounded

pub reply_again : (text : List ℕ) (command : CommandRecord) (status : ℕ) (detail : Option Detail) → command_in text ≡ Ok command → set_of (reply_command command status detail) ≡ Some (reply_elements command status detail)
reply_again = back.reply_again

pub pdus_longer : (context size : ℕ) (text : List ℕ) → 1 ≤ size → size < length text
    → command_pdus context (fragments size text) ≡ data_text context true false (take size text) ++ command_pdus context (fragments size (drop size text))
pdus_longer = pdus.pdus_longer

pub pdus_last : (context size : ℕ) (text : List ℕ) → length text ≤ size → command_pdus context (fragments size text) ≡ data_text context true true text
pdus_last = pdus.pdus_last

pub reads_field : (text : List ℕ) (command : CommandRecord) → command_in text ≡ Ok command → (command.field ≡ c_echo) ⊎ (command.field ≡ c_store)
reads_field = back.reads_field

pub field_again : (text : List ℕ) (command : CommandRecord) (status : ℕ) (detail : Option Detail) → command_in text ≡ Ok command → needed two_bytes (command_value field_element (reply_elements command status detail)) ≡ Ok (command.field + response)
field_again = back.field_again

pub status_again : (command : CommandRecord) (status : ℕ) (detail : Option Detail) → status < 2 ^ 16 → needed two_bytes (command_value status_element (reply_elements command status detail)) ≡ Ok status
status_again = back.status_again
