-- What the table of storage classes has (PS3.4 table B.5-1, PS3.6 annex A, PS3.3 section F.5).
use Rattle.dictionary.specs.declared.storage.StorageClass.{StorageClass}
use Rattle.dictionary.specs.StorageClasses.{StorageRow}

-- the row of the table for a constant of the code
abbrev pub storage_row : StorageClass → StorageRow
storage_row class = record { uid = class.uid.now; keyword = class.keyword.now; is_image = class.is_image }
