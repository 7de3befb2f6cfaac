-- The state of a filing (storage for received files) as contracts see it, and the state after each of its calls. This
-- product's own profile.
use Rattle.std.specs.Prelude.{◌≡◌, ℕ, ◌+◌, Bool, false, List, [], ◌∷◌, ◌++◌, Option, Some, None, Result, Ok, Err, is_some}

-- the contents of a filing: its files, oldest first, and the draft's bytes, which are empty if there is no draft
pub record Shelf : Type 0 where
  pub files : List (List ℕ)
  pub draft : List ℕ

-- the state of a filing as contracts see it: its contents, if they are known; whether there is a draft; the number of
-- failed calls
pub record Store : Type 0 where
  pub reported : Option Shelf
  pub has_draft : Bool
  pub failures : ℕ

-- the contents of a filing after this step, if they are known
-- e.g. reported_after without_draft None ≡ None
abbrev pub reported_after : (Shelf → Shelf) → Option Shelf → Option Shelf
reported_after step None = None
reported_after step (Some shelf) = Some (step shelf)

-- the contents with an empty draft, or none
abbrev pub without_draft : Shelf → Shelf
without_draft shelf = record { files = shelf.files; draft = [] }

-- the contents with these bytes appended to the draft
abbrev pub appended : List ℕ → Shelf → Shelf
appended bytes shelf = record { files = shelf.files; draft = shelf.draft ++ bytes }

-- the contents with the draft as the last file
abbrev pub committed : Shelf → Shelf
committed shelf = record { files = shelf.files ++ shelf.draft ∷ []; draft = [] }

-- the state of a filing after this step of its contents, with a draft (true) or without one
abbrev pub stepped : (Shelf → Shelf) → Bool → Store → Store
stepped step drafting store = record { reported = reported_after step store.reported; has_draft = drafting; failures = store.failures }

-- the state of a filing after a failed call: no draft, the same files, one more failure
abbrev pub failed : Store → Store
failed store = record { reported = reported_after without_draft store.reported; has_draft = false; failures = store.failures + 1 }

-- the state after a call with this result: for `Ok` that after the step, with a draft or without one; for `Err` that
-- after a failed call
abbrev pub LeavesStore : {T E : Type 0} → (Shelf → Shelf) → Bool → Result T E → Store → Store → Type 0
LeavesStore step drafting (Ok _) old new = new ≡ stepped step drafting old
LeavesStore step drafting (Err _) old new = new ≡ failed old

-- the files, the draft and the number of failed calls of a filing over memory or over a folder
pub record MemoryState : Type 0 where
  pub files : List (List ℕ)
  pub draft : Option (List ℕ)
  pub failures : ℕ

-- these bytes, or none if there are none
-- e.g. or_nothing None ≡ []
abbrev pub or_nothing : Option (List ℕ) → List ℕ
or_nothing None = []
or_nothing (Some bytes) = bytes

-- the state of a filing over memory or over a folder, as the state of any filing: its contents are known
abbrev pub store_of : MemoryState → Store
store_of kept = record { reported = Some (record { files = kept.files; draft = or_nothing kept.draft }); has_draft = is_some kept.draft; failures = kept.failures }

-- a new filing: no file, no draft, no failed call
abbrev pub nothing_filed : MemoryState
nothing_filed = record { files = []; draft = None; failures = 0 }
