-- None of the folders so far has the file.
use Rattle.std.proofs.Common.{◌≡◌, false, take}
use Rattle.std.specs.List.{list_any}
use Rattle.folder_filing.specs.Synced.{is_synced_in}
use Rattle.folder_filing.proofs.names_synced.NamesSynced.file_at.Given as goal

abbrev pub invariant-loop-folder : goal.invariant-loop-folder
invariant-loop-folder g l = list_any (is_synced_in l.location) (take l.folder-index l.folder-items) ≡ false
