-- A directory as it is read (PS3.3 sections F.3 and F.4): its root, its records with their positions, and the
-- contents of a record. Offsets count from the first byte of the file to the tag of a record's item.
use Rattle.std.specs.Prelude.{◌≡◌, ℕ, ◌+◌, Bool, true, false, not, ◌&&◌, ◌||◌, List, [], ◌∷◌, ◌++◌, length, Option, Some, None, is_some, nat_eq, if◌then◌else◌}
use Rattle.std.specs.Str.{bytes_eq}
use Rattle.byteorder.specs.Endian.{little_number}
use Rattle.element.specs.declared.syntax.Syntax.TheVariants.{Explicit}
use Rattle.sequence.specs.declared.coding.Coding.TheVariants as codings
use Rattle.element.specs.declared.header.Header.{Header}
use Rattle.element.specs.Header.{number, header_bytes}
use Rattle.dictionary.specs.Syntaxes.{syntax_uid}
use Rattle.part10.specs.MetaText.{MetaValues, SpellsMeta}
use Rattle.sequence.specs.Shape.{is_undefined}
use Rattle.sequence.specs.Tree.{Elements, no_elements, value, sequence, Items, no_items, item, fragment, DataSet}
use Rattle.element.specs.Padding.{is_padding, without_trailing}
use Rattle.dicomdir.specs.FileId.{file_id_of}
use Rattle.dicomdir.specs.declared.level.Level.TheVariants.{Image}
use Rattle.dicomdir.specs.Level.{kind_of}

-- the file is a file header in Explicit VR Little Endian (`front`), followed by the bytes `back`
pub record IsExplicitFile (file front back : List ℕ) : Type 0 where
  pub said : MetaValues
  pub whole : file ≡ front ++ back
  pub header : SpellsMeta said front
  pub syntax : said.syntax ≡ syntax_uid Explicit

-- the file is such a file header, followed by a data set of these elements at position `start`
pub record IsDirectoryFile (file : List ℕ) (start : ℕ) (elements : Elements) : Type 0 where
  pub front : List ℕ
  pub back : List ℕ
  pub explicit : IsExplicitFile file front back
  pub data_set : DataSet codings.Explicit 0 elements back
  pub begins : start ≡ length front

-- the size of a header in bytes
abbrev pub header_size : Header → ℕ
header_size h = length (header_bytes h)

-- the size of the delimitation after an undefined length, 8 bytes; 0 after a defined one
abbrev pub end_size : ℕ → ℕ
end_size n = if is_undefined n then 8 else 0

-- the size of these elements in bytes, and of these items
abbrev mutual
  pub size_of : Elements → ℕ
  size_of no_elements = 0
  size_of (value h v es) = header_size h + length v + size_of es
  size_of (sequence h is es) = header_size h + size_of_items is + end_size h.length + size_of es

  -- the size of these items in bytes
  pub size_of_items : Items → ℕ
  size_of_items no_items = 0
  size_of_items (item h es is) = header_size h + size_of es + end_size h.length + size_of_items is
  size_of_items (fragment h v is) = header_size h + length v + size_of_items is

-- the element with a tag: none, a value, or items, with the position of its header
pub data Found : Type 0 where
  missing : Found
  value_at : ℕ → List ℕ → Found
  items_at : ℕ → Header → Items → Found

-- the element with this tag among elements, the first of which is at position `offset`
abbrev pub found : ℕ → ℕ → Elements → Found
found tag offset no_elements = missing
found tag offset (value h v es) =
    if nat_eq (number h.tag) tag then value_at offset v else found tag (offset + header_size h + length v) es
found tag offset (sequence h is es) =
    if nat_eq (number h.tag) tag then items_at offset h is
    else found tag (offset + header_size h + size_of_items is + end_size h.length) es

-- the number in a value of `size` bytes; none for anything else
abbrev pub number_in : ℕ → Found → Option ℕ
number_in size missing = None
number_in size (value_at offset v) = if nat_eq (length v) size then Some (little_number size v) else None
number_in size (items_at offset h is) = None

-- a record: the position of its item, and its elements
pub record Record : Type 0 where
  pub offset : ℕ
  pub elements : Elements

-- the records in these items, the first of which is at position `offset`; a fragment is no record
abbrev pub records_at : ℕ → Items → List Record
records_at offset no_items = []
records_at offset (item h es is) =
    record { offset = offset; elements = es } ∷ records_at (offset + header_size h + size_of es + end_size h.length) is
records_at offset (fragment h v is) = records_at (offset + header_size h + length v) is

-- the records in these items, each with its position
abbrev pub records_in : Found → Option (List Record)
records_in missing = None
records_in (value_at offset v) = None
records_in (items_at offset h is) = Some (records_at (offset + header_size h) is)

-- the root's offset of its first record (0004,1200)
abbrev pub first_offset : ℕ → Elements → Option ℕ
first_offset start es = number_in 4 (found 0x00041200 start es)

-- the offset of the last record of the root (0004,1202)
abbrev pub last_offset : ℕ → Elements → Option ℕ
last_offset start es = number_in 4 (found 0x00041202 start es)

-- the records of a directory, if its Directory Record Sequence is a sequence
abbrev pub records_of : ℕ → Elements → Option (List Record)
records_of start es = records_in (found 0x00041220 start es)

-- ---- the elements of a record

-- the offset of the next record at the same level (0004,1400)
abbrev pub next_offset : Elements → Option ℕ
next_offset es = number_in 4 (found 0x00041400 0 es)

-- the offset of the first record at the lower level (0004,1420)
abbrev pub lower_offset : Elements → Option ℕ
lower_offset es = number_in 4 (found 0x00041420 0 es)

-- the offset, or 0, which stands for no record, if it is missing
abbrev pub or_zero : Option ℕ → ℕ
or_zero None = 0
or_zero (Some n) = n

-- whether the Record In-use Flag (0004,1410) is not 0000H
abbrev pub is_in_use : Option ℕ → Bool
is_in_use None = false
is_in_use (Some flag) = nat_eq flag 0xffff

-- the value of Record In-use Flag is valid: FFFFH, in use, or 0000H, inactive
abbrev pub is_use_flag : Option ℕ → Bool
is_use_flag None = false
is_use_flag (Some flag) = nat_eq flag 0xffff || nat_eq flag 0

-- a value as it is compared, and written for a key: without spaces and zero bytes at its end
abbrev pub key : List ℕ → List ℕ
key v = without_trailing is_padding v

-- the Directory Record Type, without spaces and zero bytes at its end
abbrev pub kind_in : Found → List ℕ
kind_in missing = []
kind_in (value_at offset v) = key v
kind_in (items_at offset h is) = []

-- the Referenced File ID (0004,1500) of a record
abbrev pub file_id_in : Found → Option (List ℕ)
file_id_in missing = None
file_id_in (value_at offset v) = file_id_of v
file_id_in (items_at offset h is) = None

-- whether there is no element with the tag
abbrev pub is_missing : Found → Bool
is_missing missing = true
is_missing (value_at offset v) = false
is_missing (items_at offset h is) = false

-- the contents of a node of the tree: whether it is in use, its type, and its file ID, if it has one
pub record Node : Type 0 where
  pub in_use : Bool
  pub kind : List ℕ
  pub file_id : Option (List ℕ)

-- the contents of the node of a record with these elements
abbrev pub carried_node : Elements → Node
carried_node es = record {
  in_use = is_in_use (number_in 2 (found 0x00041410 0 es));
  kind = kind_in (found 0x00041430 0 es);
  file_id = file_id_in (found 0x00041500 0 es);
}

-- a record has its two offsets, a valid Record In-use Flag and a type
abbrev pub has_record : Elements → Bool
has_record es =
    (is_some (next_offset es) && is_use_flag (number_in 2 (found 0x00041410 0 es)))
    && (is_some (lower_offset es) && not (bytes_eq (carried_node es).kind []))

-- a record in use has a valid file ID, or none; an IMAGE record has one
abbrev pub has_file_id : Elements → Bool
has_file_id es =
    not (carried_node es).in_use
    || is_some (carried_node es).file_id
    || (is_missing (found 0x00041500 0 es) && not (bytes_eq (carried_node es).kind (kind_of Image)))
