-- What the keys of a row have to be (PS3.3 section F.5): at most as long as the table allows, and those of type 1 not
-- empty. Both is this product's own profile.
use Rattle.std.specs.Prelude.{◌≡◌, ℕ, Bool, true, false, ◌&&◌, List, length, Option, Some, None, option_map, Result, Ok, Err, nat_le, if◌then◌else◌, map}
use Rattle.std.specs.List.{list_all, find}
use Rattle.element.specs.declared.tag.Tag.{Tag}
use Rattle.element.specs.Header.{number}
use Rattle.element.specs.Padding.{is_empty}
use Rattle.element.specs.Uid.{is_uid}
use Rattle.sequence.specs.Wanted.{Values, value_of}
use Rattle.dicomdir_writing.specs.declared.record_table.RecordRule.{RecordRule}
use Rattle.dicomdir_writing.specs.declared.record_table.ElementType.{ElementType}
use Rattle.dicomdir_writing.specs.declared.record_table.ElementType.TheVariants.{Unique, Type1}
use Rattle.dicomdir_writing.specs.declared.skip.Skip.{Skip}
use Rattle.dicomdir_writing.specs.declared.skip.Skip.TheVariants.{Fault, Missing}
use Rattle.dicomdir.specs.FileId.{is_file_id}
use Rattle.dicomdir_writing.specs.RecordTable.{key_table}
use Rattle.dicomdir_writing.specs.Row.{Row, key_in}
use Rattle.dicomdir.specs.Directory.{key}
use Rattle.dictionary.specs.declared.transfer.Transfer.{Transfer}
use Rattle.dicomdir_writing.specs.declared.keys.Entry.{Entry}
use Rattle.dicomdir_writing.specs.declared.keys.Keys.{Keys}

-- the size of an optional value in bytes, 0 if there is none
abbrev pub optional_size : Option (List ℕ) → ℕ
optional_size None = 0
optional_size (Some v) = length v

-- whether the value of this key is at most as long as the table allows
abbrev pub fits_room : Values → RecordRule → Bool
fits_room values rule = nat_le (optional_size (value_of values (number rule.tag))) rule.room

-- whether no key is longer than the table allows
abbrev pub fits_rooms : Row → Bool
fits_rooms row = list_all (fits_room row.values) key_table

-- the value of a key is empty without its padding
abbrev pub is_empty_key : List ℕ → Bool
is_empty_key value = is_empty (key value)

-- whether a key is of type 1: it must have a value
abbrev pub needs_value : ElementType → Bool
needs_value Unique = true
needs_value Type1 = true
needs_value kind = false

-- whether a key of type 1 is absent or empty
abbrev pub is_missing : Values → RecordRule → Bool
is_missing values rule = needs_value rule.kind && is_empty_key (key_in values rule.tag)

-- the tag of the first key of type 1, in ascending order of tags, that is missing or empty
abbrev pub first_empty : Row → Option Tag
first_empty row = option_map (λ rule. rule.tag) (find (is_missing row.values) key_table)

-- the row, or the tag of the first key of type 1 that is missing
abbrev pub row_unless : Row → Option Tag → Result Row Skip
row_unless row None = Ok row
row_unless row (Some t) = Err (Missing t)

-- the row of these values; or fault 21 if a key is too long, else the tag of the first key of type 1 that is missing
abbrev pub checked_row : Row → Result Row Skip
checked_row row = if fits_rooms row then row_unless row (first_empty row) else Err (Fault 21)

-- the invariant of a row
pub record IsRow (row : Row) : Type 0 where
  pub file_id : is_file_id row.file_id ≡ true
  pub class : is_uid row.class ≡ true
  pub instance : is_uid row.instance ≡ true
  pub fits : fits_rooms row ≡ true
  pub full : first_empty row ≡ None

-- ---- the row of a file ID, the contents of a file header, and keys

abbrev pub RowValue : Type 0
RowValue = Row

abbrev pub entry_value : {A : Type 0} → Entry A → ℕ × List ℕ
entry_value entry = (number entry.tag, entry.value.items)

abbrev pub key_values : {A : Type 0} → Keys A → Values
key_values keys = map entry_value keys.entries.items

abbrev pub keys_row : {A : Type 0} → List ℕ → List ℕ → List ℕ → Transfer → Keys A → Row
keys_row file_id class instance syntax keys = record {
  file_id = file_id;
  class = class;
  instance = instance;
  syntax = syntax;
  values = key_values keys;
}
