-- What a directory is built from: a row for each file. The keys are those of PS3.3 section F.5; which of them must
-- not be empty is this product's own profile.
use Rattle.std.specs.Prelude.{ℕ, List, [], ◌∷◌, ◌++◌, unwrap_or, if◌then◌else◌}
use Rattle.std.specs.List.{list_any}
use Rattle.std.specs.Str.{bytes_eq}
use Rattle.dictionary.specs.declared.transfer.Transfer.{Transfer}
use Rattle.element.specs.declared.tag.Tag.{Tag}
use Rattle.element.specs.Header.{number}
use Rattle.sequence.specs.Wanted.{Values, value_of}

-- the row of a file: its file ID; the SOP class, SOP instance and transfer syntax of its file header; and the values of
-- its keys
pub record Row : Type 0 where
  pub file_id : List ℕ
  pub class : List ℕ
  pub instance : List ℕ
  pub syntax : Transfer
  -- the keys: values of the data set that records have, each with the number of its tag
  pub values : Values

-- the value with this tag, or the empty one if there is none
abbrev pub key_in : Values → Tag → List ℕ
key_in values t = unwrap_or (value_of values (number t)) []

-- the rows without duplicates: rows whose SOP Instance UID is one of `before` or that of an earlier row
abbrev pub without_duplicates : List (List ℕ) → List Row → List Row
without_duplicates before [] = []
without_duplicates before (row ∷ rows) =
    if list_any (bytes_eq row.instance) before then without_duplicates before rows
    else row ∷ without_duplicates (before ++ row.instance ∷ []) rows
