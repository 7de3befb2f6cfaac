-- The PDUs of a reply, one after the other: a fragment of the size, and the PDUs of the rest (`pdus_longer`), or the
-- last one (`pdus_last`). Stands on SetIsSentWhole.
use Rattle.std.proofs.Common.{◌≡◌, ℕ, zero, suc, ◌<◌, ◌≤◌, true, false, List, ◌∷◌, ◌++◌, length, take, drop, ap, ◌∙◌, refl, inl, inr, arith}
use Rattle.std.proofs.lemmas.Bool.{cases_lt, le-leb, lt-leb}
use Rattle.std.proofs.lemmas.List.{length-drop}
use Rattle.pdu.specs.Texts.{data_text}
use Rattle.dimse.specs.Reply.{fragments_in, fragments, command_pdus}
use Rattle.dimse.proofs.SetIsSentWhole.{pdus_next, last_of}

-- the fragments do not depend on how many there may be
same_fragments : (a b size : ℕ) (text : List ℕ) → 1 ≤ size → length text ≤ a → length text ≤ b → fragments_in a size text ≡ fragments_in b size text
same_fragments zero zero size text some p q = refl
same_fragments zero (suc b) size text some p q = rw (le-leb (length text) size (omega (arith, some, p))) refl
same_fragments (suc a) zero size text some p q = rw (le-leb (length text) size (omega (arith, some, q))) refl
same_fragments (suc a) (suc b) size text some p q = elim (cases_lt size (length text)) [
  | inl lt ↦ rw (lt-leb (length text) size lt) (ap (λ (more : List (List ℕ)). take size text ∷ more) (same_fragments a b size (drop size text) some (omega (arith, some, p, length-drop size text)) (omega (arith, some, q, length-drop size text))))
  | inr le ↦ rw (le-leb (length text) size le) refl
]

longer_by : (context size n : ℕ) (text : List ℕ) → length text ≡ n → 1 ≤ size → size < length text
    → command_pdus context (fragments_in n size text) ≡ data_text context true false (take size text) ++ command_pdus context (fragments size (drop size text))
unfolding fragments
longer_by context size zero text e some lt = absurd (omega (arith, e, lt))
longer_by context size (suc n) text e some lt =
    rw (lt-leb (length text) size lt) (
    pdus_next context (take size text) n size (drop size text)
    ∙ ap (λ (cut : List (List ℕ)). data_text context true false (take size text) ++ command_pdus context cut) (same_fragments n (length (drop size text)) size (drop size text) some (omega (arith, e, some, length-drop size text)) (omega arith)))

pub pdus_longer : (context size : ℕ) (text : List ℕ) → 1 ≤ size → size < length text
    → command_pdus context (fragments size text) ≡ data_text context true false (take size text) ++ command_pdus context (fragments size (drop size text))
unfolding fragments
pdus_longer context size text some lt = longer_by context size (length text) text refl some lt

pub pdus_last : (context size : ℕ) (text : List ℕ) → length text ≤ size → command_pdus context (fragments size text) ≡ data_text context true true text
unfolding fragments
pdus_last context size text le = last_of context size (length text) text le
