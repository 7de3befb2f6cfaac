-- The devices of an association, the wire and the filing, and how their states change along its timeline.
use Rattle.std.specs.Prelude.{ℕ, ◌+◌, ◌≤◌, ◌<◌, List, [], ◌++◌, length, Option, Some, None, option_map}
use Rattle.std.specs.Io.KnownBytes.{append_known}
use Rattle.pdu.specs.Sent.{Line, sent_all, cut_after}
use Rattle.part10.specs.Store.{Shelf, Store}

-- the states of the two devices of an association, the wire and the filing
pub record Devices : Type 0 where
  pub line : Line
  pub store : Store

-- the state of a wire and that of a filing, as those of the devices of an association
abbrev pub devices : Line → Store → Devices
devices line store = record { line = line; store = store }

-- ---- the wire

-- the state of the wire after these bytes: all were sent, or, if a send failed, the first k
abbrev pub line_after : Option ℕ → List ℕ → Line → Line
line_after None text line = sent_all text line
line_after (Some k) text line = cut_after k text line

-- a send fails only if there are bytes to send, after at most all of them
abbrev pub IsFront : Option ℕ → List ℕ → Type 0
IsFront None text = Unit {0}
IsFront (Some k) text = (0 < length text) × (k ≤ length text)

-- the state of a wire with these bytes appended, if they are known, and so many more failures
-- e.g. (line_with (1 ∷ []) 0 (record { sent = Some (7 ∷ []); failures = 2 })).sent ≡ Some (7 ∷ 1 ∷ [])
abbrev pub line_with : List ℕ → ℕ → Line → Line
line_with text failed line = record { sent = append_known line.sent text; failures = line.failures + failed }

-- ---- the filing

-- the files of a filing, if they are known
abbrev pub files_in : Store → Option (List (List ℕ))
files_in store = option_map (λ shelf. shelf.files) store.reported

-- the files of a filing with these after them, if they are known
abbrev pub with_files : List (List ℕ) → Option (List (List ℕ)) → Option (List (List ℕ))
with_files files known = option_map (λ fs. fs ++ files) known

-- the contents of the filing with these files at the end, and no draft
-- e.g. filed ((1 ∷ []) ∷ []) (record { files = (7 ∷ []) ∷ []; draft = 5 ∷ [] }) ≡ record { files = (7 ∷ []) ∷ (1 ∷ [])
-- ∷ []; draft = [] }
abbrev pub filed : List (List ℕ) → Shelf → Shelf
filed files shelf = record { files = shelf.files ++ files; draft = [] }
