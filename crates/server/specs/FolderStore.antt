-- A filing over a folder, as contracts see any filing. This product's own profile.
use Rattle.part10.specs.Store.{Store, store_of}
use Rattle.folder_filing.specs.States.{FolderState}

-- the files that a filing over a folder has committed itself, its draft, and the number of its failed calls
abbrev pub folder_store : FolderState → Store
folder_store filing = store_of filing.contents
