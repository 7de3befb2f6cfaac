-- A writer gets all bytes where it gets those that were read and then all after them (`before`), and where none is left
-- (`at_end`). Stands on the definitions alone.
use Rattle.std.proofs.Common.{◌≡◌, ℕ, List, [], ◌++◌, Option, Some, None, refl, sym, ap, ◌∙◌, append_assoc, append-nil}
use Rattle.std.specs.Io.KnownBytes.{Appends, Consumes, IsAtEnd}
use Rattle.arrange_command.specs.Copying.{GetsAll}

pub before : (from from_new to middle new : Option (List ℕ)) (front : List ℕ) → Consumes from from_new front → Appends to middle front → GetsAll from_new middle new → GetsAll from to new
before None from_new to middle new front consumed written rest = _
before (Some xs) None to middle new front consumed written rest = absurd consumed
before (Some xs) (Some ys) None middle new front consumed written rest = _
before (Some xs) (Some ys) (Some old) None new front consumed written rest = absurd written
before (Some xs) (Some ys) (Some old) (Some more) None front consumed written rest = absurd rest
before (Some xs) (Some ys) (Some old) (Some more) (Some new) front consumed written rest =
    rest ∙ ap (λ (bytes : List ℕ). bytes ++ ys) written ∙ append_assoc old front ys ∙ ap (λ (bytes : List ℕ). old ++ bytes) (sym consumed)

pub at_end : (from from_new to : Option (List ℕ)) → Consumes from from_new [] → IsAtEnd from_new → GetsAll from to to
at_end None from_new to consumed ended = _
at_end (Some xs) None to consumed ended = absurd consumed
at_end (Some xs) (Some ys) None consumed ended = _
at_end (Some xs) (Some ys) (Some old) consumed ended = sym (append-nil old) ∙ ap (λ (bytes : List ℕ). old ++ bytes) (sym (consumed ∙ ended))
