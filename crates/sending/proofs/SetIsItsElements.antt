-- The elements of a C-STORE-RQ, put together, are its command set (`put_together`). Stands on the definitions alone.
use Rattle.std.proofs.Common.{◌≡◌, ℕ, List, [], ◌∷◌, ◌++◌, append_assoc}
use Rattle.std.proofs.lemmas.List.{append-nil}
use Rattle.element.specs.Numbers.{le}
use Rattle.element.specs.Uid.{even_uid}
use Rattle.dimse.specs.Command.{CommandElement, command_element_bytes, command_elements_bytes}
use Rattle.dimse.specs.Reply.{element}

laid_out : (a b c d e f : CommandElement)
    → (((((([] ++ command_element_bytes a) ++ command_element_bytes b) ++ command_element_bytes c) ++ command_element_bytes d) ++ command_element_bytes e) ++ command_element_bytes f)
    ≡ command_elements_bytes (a ∷ b ∷ c ∷ d ∷ e ∷ f ∷ [])
laid_out a b c d e f = simp (append_assoc, append-nil)

pub put_together : (class instance : List ℕ) (message : ℕ) (s1 s2 s3 s4 s5 s6 : List ℕ)
    → s1 ≡ [] ++ command_element_bytes (element 0x0002 (even_uid class))
    → s2 ≡ s1 ++ command_element_bytes (element 0x0100 (le 1 2))
    → s3 ≡ s2 ++ command_element_bytes (element 0x0110 (le message 2))
    → s4 ≡ s3 ++ command_element_bytes (element 0x0700 (le 0 2))
    → s5 ≡ s4 ++ command_element_bytes (element 0x0800 (le 1 2))
    → s6 ≡ s5 ++ command_element_bytes (element 0x1000 (even_uid instance))
    → s6 ≡ command_elements_bytes (element 0x0002 (even_uid class) ∷ element 0x0100 (le 1 2) ∷ element 0x0110 (le message 2) ∷ element 0x0700 (le 0 2) ∷ element 0x0800 (le 1 2) ∷ element 0x1000 (even_uid instance) ∷ [])
put_together class instance message s1 s2 s3 s4 s5 s6 e1 e2 e3 e4 e5 e6 =
    rw (e6, e5, e4, e3, e2, e1)
    (laid_out (element 0x0002 (even_uid class)) (element 0x0100 (le 1 2)) (element 0x0110 (le message 2)) (element 0x0700 (le 0 2)) (element 0x0800 (le 1 2)) (element 0x1000 (even_uid instance)))
