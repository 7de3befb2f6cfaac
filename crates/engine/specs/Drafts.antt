-- The draft of a C-STORE in the filing, while its data set is received (PS3.7 section 9.1.1; when it is started and
-- dropped is this product's own profile).
use Rattle.std.specs.Prelude.{◌≡◌, ℕ, Bool, true, false, List, [], ◌∷◌, Option, Some, None}
use Rattle.engine.specs.Requested.{Requested, request_record}
use Rattle.dimse.specs.Messages.{Started}
use Rattle.part10.specs.Store.{Shelf, Store}
use Rattle.engine.specs.Replies.{file_in}
use Rattle.engine.specs.Fair.{InStore}

-- The filing must have a draft: a C-STORE of the SOP class of its presentation context has started in the association
-- of this request, `file` are the bytes of its file so far, and no call of the filing has failed in it.
pub record IsDue (request : Requested) (message : Started) (failed : Bool) (file : List ℕ) : Type 0 where
  pub store : InStore request message
  pub unfailed : failed ≡ false
  pub filed : file_in (request_record request) (Some store.context) store.asked store.set ≡ file ∷ []

-- the draft has these bytes, if the contents of the filing are known
abbrev pub ReportsDraft : Option Shelf → List ℕ → Type 0
ReportsDraft None file = Unit {0}
ReportsDraft (Some shelf) file = shelf.draft ≡ file

pub record HasDraft (store : Store) (file : List ℕ) : Type 0 where
  pub there : store.has_draft ≡ true
  pub bytes : ReportsDraft store.reported file

-- if the filing must have a draft, the association has one (true), with the bytes of the file so far; else it has
-- none (false)
pub data IsDraft (request : Requested) (message : Started) (failed : Bool) (store : Store) : Bool → Type 0 where
  draft_due : {file : List ℕ} → IsDue request message failed file → HasDraft store file → IsDraft request message failed store true
  none_due : ((file : List ℕ) → IsDue request message failed file → ⊥) → IsDraft request message failed store false

-- if the filing had no draft but the association's before, it has no other afterwards
abbrev pub OwnDraft : Bool → Store → Bool → Store → Type 0
OwnDraft drafting_old old drafting_new new = old.has_draft ≡ drafting_old → new.has_draft ≡ drafting_new

-- where the association has a draft, the filing has one
abbrev pub IsThere : Bool → Store → Type 0
IsThere drafting store = drafting ≡ true → store.has_draft ≡ true

-- the association's draft stays in the filing or is gone, and the filing gets no other draft
pub record Drafts (drafting_old : Bool) (old : Store) (drafting_new : Bool) (new : Store) : Type 0 where
  pub there : IsThere drafting_new new
  pub own : OwnDraft drafting_old old drafting_new new
