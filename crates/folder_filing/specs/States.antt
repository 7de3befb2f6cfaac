-- The states of a filing over a folder and of the writer of a folder, as contracts see them. This product's own
-- profile.
use Rattle.std.specs.Prelude.{ℕ, Bool}
use Rattle.part10.specs.Store.{MemoryState}
use Rattle.folder_filing.specs.declared.pending.Pending.{Pending}
use Rattle.folder_filing.specs.Naming.{Naming}

-- the state of a filing over a folder, as contracts see it: the files that it has committed itself, the names that it
-- has given, with the number of its draft, and the state of its last commit
pub record FolderState : Type 0 where
  pub contents : MemoryState
  pub names : Naming
  pub pending : Pending

-- the state of the writer of a folder, as contracts see it: how many filings it has made, and whether those that it
-- makes sync to the disk
pub record WriterState : Type 0 where
  pub filings : ℕ
  pub has_sync : Bool
