-- The directory records of a row (PS3.3 table F.3-3 and section F.5).
use Rattle.std.specs.Prelude.{ℕ, List, [], ◌∷◌, length, Option, Some, None, unwrap_or, option_map, codes, nat_eq, nat_lt, if◌then◌else◌, ◌++◌}
use Rattle.std.specs.Cmp.Lexicographic.{pointwise}
use Rattle.element.specs.declared.tag.Tag.{Tag}
use Rattle.element.specs.Header.{number, header_bytes, item_tag}
use Rattle.element.specs.Numbers.{le}
use Rattle.dictionary.specs.Transfers.{transfer_uid}
use Rattle.element.specs.Padding.{padded}
use Rattle.sequence.specs.Tree.{Elements, no_elements, value, sequence, Items, no_items, item, fragment}
use Rattle.sequence.specs.Wanted.{Values, value_of}
use Rattle.dicomdir_writing.specs.declared.record_table.RecordRule.{RecordRule}
use Rattle.dicomdir_writing.specs.declared.record_table.ElementType.{ElementType}
use Rattle.dicomdir_writing.specs.declared.record_table.ElementType.TheVariants.{Unique, Type1, Type1C, Type2, Type3}
use Rattle.dicomdir.specs.declared.level.Level.{Level}
use Rattle.dicomdir_writing.specs.RecordTable.{has_level, record_table}
use Rattle.dicomdir_writing.specs.Row.{Row}
use Rattle.dicomdir.specs.Directory.{key}
use Rattle.dicomdir.specs.Level.{kind_of}
use Rattle.element.specs.declared.header.Header.{Header}

-- the tag with this group and element number
abbrev pub tag : ℕ → ℕ → Tag
tag group element = record { 0 = group; 1 = element }

-- an element in Explicit VR, before others
abbrev pub field : Tag → List ℕ → List ℕ → Elements → Elements
field t vr v behind = value (record { tag = t; vr = Some vr; length = length v }) v behind

-- the byte that pads a value of this VR: 00H for UI, a space for any other
abbrev pub padding_for : List ℕ → ℕ
padding_for vr = if pointwise nat_eq vr (codes "UI") then 0 else 32

-- an element, padded, before others, if the record has it
abbrev pub field_of : RecordRule → Option (List ℕ) → Elements → Elements
field_of rule None behind = behind
field_of rule (Some v) behind = field rule.tag rule.vr (padded (padding_for rule.vr) v) behind

-- the value with which a record has an element of this type: none if it does not have it; it may be empty
abbrev pub written : ElementType → Option (List ℕ) → Option (List ℕ)
written Unique v = Some (unwrap_or v [])
written Type1 v = Some (unwrap_or v [])
written Type1C v = v
written Type2 v = Some (unwrap_or v [])
written Type3 v = v

-- the elements of these rules that a record of this level has, with the values of `says`
abbrev pub fields : Level → List RecordRule → (ℕ → Option (List ℕ)) → Elements
fields level [] says = no_elements
fields level (rule ∷ rules) says =
    if has_level rule.levels level then field_of rule (written rule.kind (says (number rule.tag))) (fields level rules says)
    else fields level rules says

-- the values of group 0004 of the record of a row, of itself and of its file; Record In-use Flag is FFFFH, in use
abbrev pub own_values : Level → Row → Values
own_values level row =
    (0x00041410, le 0xffff 2)
    ∷ (0x00041430, kind_of level)
    ∷ (0x00041500, row.file_id)
    ∷ (0x00041510, row.class)
    ∷ (0x00041511, row.instance)
    ∷ (0x00041512, transfer_uid row.syntax)
    ∷ []

-- the value of an element of a record: of group 0004 one of `own`, of any other a key, without padding
abbrev pub says : Values → Values → ℕ → Option (List ℕ)
says own keys t = if nat_lt t 0x00050000 then value_of own t else option_map key (value_of keys t)

-- the elements of the record of a row at a level, without the two offsets
abbrev pub record_for : Level → Row → Elements
record_for level row = fields level record_table (says (own_values level row) row.values)

-- ---- the layout of a directory that this product writes (PS3.3 section F.3): sequence and items have defined
-- lengths (PS3.5 section 7.5.1), which is this product's own profile.

-- the bytes of elements and items, one after the other
abbrev mutual
  pub spelled : Elements → List ℕ
  spelled no_elements = []
  spelled (value h v es) = header_bytes h ++ (v ++ spelled es)
  spelled (sequence h is es) = header_bytes h ++ (spelled_items is ++ spelled es)

  -- the bytes of items, one after the other
  pub spelled_items : Items → List ℕ
  spelled_items no_items = []
  spelled_items (item h es is) = header_bytes h ++ (spelled es ++ spelled_items is)
  spelled_items (fragment h v is) = header_bytes h ++ (v ++ spelled_items is)

-- the elements of a record with its two offsets, before and after Record In-use Flag, which is the first without them
abbrev pub with_offsets : ℕ → ℕ → Elements → Elements
with_offsets next lower no_elements = no_elements
with_offsets next lower (value in_use flag es) =
    field (tag 0x0004 0x1400) (codes "UL") (le next 4)
    (value in_use flag (field (tag 0x0004 0x1420) (codes "UL") (le lower 4) es))
with_offsets next lower (sequence h is es) = sequence h is es

-- an item of these elements, before the other items
abbrev pub item_of : Elements → Items → Items
item_of es is = item (record { tag = item_tag; vr = None; length = length (spelled es) }) es is

-- the item of a record with its next and its lower offset, before other items
abbrev pub record_item : ℕ → ℕ → Elements → Items → Items
record_item next lower es is = item_of (with_offsets next lower es) is

-- the header of Directory Record Sequence (0004,1220), whose items have `size` bytes
abbrev pub records_header : ℕ → Header
records_header size = record { tag = tag 0x0004 0x1220; vr = Some (codes "SQ"); length = size }

-- an empty File-set ID, the offsets of the first and the last record of the root, and File-set Consistency Flag
abbrev pub root_fields : ℕ → ℕ → Elements → Elements
root_fields first last behind =
    field (tag 0x0004 0x1130) (codes "CS") []
    (field (tag 0x0004 0x1200) (codes "UL") (le first 4)
    (field (tag 0x0004 0x1202) (codes "UL") (le last 4)
    (field (tag 0x0004 0x1212) (codes "US") (le 0 2) behind)))

-- the elements of a directory: those of the root, and the records
abbrev pub root_elements : ℕ → ℕ → Items → Elements
root_elements first last is = root_fields first last (sequence (records_header (length (spelled_items is))) is no_elements)

-- ---- the bytes of a directory record, element after element (PS3.5 section 7.1.2, PS3.3 section F.5)

unfoldable pub element_text : Tag → List ℕ → List ℕ → List ℕ
element_text t vr v = header_bytes (record { tag = t; vr = Some vr; length = length v }) ++ v

-- the bytes of the record of a row at a level, with its two offsets
unfoldable pub record_text : Level → Row → ℕ → ℕ → List ℕ
record_text level row next lower = spelled_items (record_item next lower (record_for level row) no_items)
