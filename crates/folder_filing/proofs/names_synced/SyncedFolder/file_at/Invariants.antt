-- None of the files so far has the location.
use Rattle.std.proofs.Common.{◌≡◌, false, take}
use Rattle.std.specs.List.{list_any}
use Rattle.folder_filing.specs.Synced.{is_at}
use Rattle.folder_filing.proofs.names_synced.SyncedFolder.file_at.Given as goal

abbrev pub invariant-loop-file : goal.invariant-loop-file
invariant-loop-file g l = list_any (is_at l.location l.folder) (take l.file-index l.file-items) ≡ false
