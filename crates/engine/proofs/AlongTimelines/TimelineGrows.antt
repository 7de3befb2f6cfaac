-- The timeline with more inputs is the old one with their entries appended (`entries_append`). Stands on the definitions
-- alone.
use Rattle.std.proofs.Common.{◌≡◌, ℕ, List, [], ◌∷◌, ◌++◌, refl, ap, append_assoc}
use Rattle.std.proofs.lemmas.List.{append-nil}
use Rattle.engine.specs.Inputs.{Received, Bytes, Close, Expiry, UserAbort, stream_of}
use Rattle.engine.specs.Timeline.{Entry, Shut, TimedOut, Aborted, entries}
use Rattle.engine.specs.Laws.{EntriesAppend}

from : (received : List ℕ) (before inputs : List Received) → entries received (before ++ inputs) ≡ entries received before ++ entries (received ++ stream_of before) inputs
from received [] inputs = rw append-nil refl
from received (Bytes piece ∷ before) inputs = rw (from (received ++ piece) before inputs, append_assoc) (simp append_assoc)
from received (Close ∷ before) inputs = ap (λ (es : List Entry). Shut ∷ es) (from received before inputs)
from received (Expiry ∷ before) inputs = ap (λ (es : List Entry). TimedOut ∷ es) (from received before inputs)
from received (UserAbort ∷ before) inputs = ap (λ (es : List Entry). Aborted ∷ es) (from received before inputs)

pub entries_append : EntriesAppend
entries_append before inputs = from [] before inputs
