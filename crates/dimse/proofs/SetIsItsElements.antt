-- The elements of a reply, put together, have the bytes and the length of its command set (`put_together`,
-- `elements_then`, `element_length`). Stands on the definitions alone.
use Rattle.std.proofs.Common.{◌≡◌, ℕ, ◌+◌, List, [], ◌∷◌, ◌++◌, length, Option, refl, sym, ap, ◌∙◌, append_assoc, arith}
use Rattle.std.proofs.lemmas.List.{append-nil}
use Rattle.element.specs.Numbers.{le}
use Rattle.element.specs.Uid.{even_uid}
use Rattle.dimse.specs.declared.detail.Detail.{Detail}
use Rattle.dimse.specs.Command.{CommandElement, CommandRecord, command_element_bytes, command_elements_bytes}
use Rattle.dimse.specs.Reply.{element, detail_elements, instance_elements, detail_carried, reply_elements}

pub element_length : (number : ℕ) (value : List ℕ) → length (command_element_bytes (element number value)) ≡ 8 + length value
unfolding command_element_bytes
element_length number value = omega arith

pub one_element : (e : CommandElement) → command_elements_bytes (e ∷ []) ≡ command_element_bytes e
one_element e = append-nil (command_element_bytes e)

pub elements_then : (a b : List CommandElement) → command_elements_bytes (a ++ b) ≡ command_elements_bytes a ++ command_elements_bytes b
elements_then [] b = refl
elements_then (e ∷ a) b = ap (λ (t : List ℕ). command_element_bytes e ++ t) (elements_then a b) ∙ sym (append_assoc (command_element_bytes e) (command_elements_bytes a) (command_elements_bytes b))

-- one element after the other
laid_out : (a b c d e : CommandElement) (f g : List CommandElement)
    → ((((((([] ++ command_element_bytes a) ++ command_element_bytes b) ++ command_element_bytes c) ++ command_element_bytes d) ++ command_element_bytes e) ++ command_elements_bytes f) ++ command_elements_bytes g)
    ≡ command_elements_bytes (a ∷ b ∷ c ∷ d ∷ e ∷ (f ++ g))
laid_out a b c d e f g = rw (elements_then f g) (simp append_assoc)

-- the room after each element
pub put_together : (command : CommandRecord) (status : ℕ) (detail : Option Detail) (s1 s2 s3 s4 s5 s6 s7 : List ℕ)
    → s1 ≡ [] ++ command_element_bytes (element 0x0002 (even_uid command.class))
    → s2 ≡ s1 ++ command_element_bytes (element 0x0100 (le (command.field + 0x8000) 2))
    → s3 ≡ s2 ++ command_element_bytes (element 0x0120 (le command.message 2))
    → s4 ≡ s3 ++ command_element_bytes (element 0x0800 (le 0x0101 2))
    → s5 ≡ s4 ++ command_element_bytes (element 0x0900 (le status 2))
    → s6 ≡ s5 ++ command_elements_bytes (detail_elements (detail_carried command.field status detail))
    → s7 ≡ s6 ++ command_elements_bytes (instance_elements command.instance)
    → s7 ≡ command_elements_bytes (reply_elements command status detail)
put_together command status detail s1 s2 s3 s4 s5 s6 s7 e1 e2 e3 e4 e5 e6 e7 =
    rw (e7, e6, e5, e4, e3, e2, e1)
    (laid_out (element 0x0002 (even_uid command.class)) (element 0x0100 (le (command.field + 0x8000) 2)) (element 0x0120 (le command.message 2)) (element 0x0800 (le 0x0101 2))
    (element 0x0900 (le status 2)) (detail_elements (detail_carried command.field status detail)) (instance_elements command.instance))
