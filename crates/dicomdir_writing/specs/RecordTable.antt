-- The elements that the records of a directory have, in the order of their tags (PS3.3 table F.3-3 and section F.5).
-- How long a key may be, and which must not be empty, is this product's own profile.
use Rattle.std.specs.Prelude.{ℕ, Bool, true, false, ◌&&◌, List, [], ◌∷◌, codes, filter}
use Rattle.sequence.specs.declared.wanted.Want.{Want}
use Rattle.dicomdir_writing.specs.declared.record_table.RecordRule.{RecordRule}
use Rattle.dicomdir_writing.specs.declared.record_table.ElementType.{ElementType}
use Rattle.dicomdir_writing.specs.declared.record_table.ElementType.TheVariants.{Unique, Type1, Type1C, Type2, Type3}
use Rattle.dicomdir_writing.specs.declared.record_table.Levels.{Levels}
use Rattle.dicomdir_writing.specs.declared.record_table.Levels.TheVariants.{Each, Only}
use Rattle.dicomdir_writing.specs.declared.record_table.RecordKeys.{RecordKeys}
use Rattle.dicomdir_writing.specs.declared.record_table.RecordKeys.TheVariants.{Needed}
use Rattle.dicomdir.specs.declared.level.Level.{Level}
use Rattle.dicomdir.specs.declared.level.Level.TheVariants.{Patient, Study, Series, Image}

-- whether the records of this level have the element
abbrev pub has_level : Levels → Level → Bool
has_level Each level = true
has_level (Only Patient) Patient = true
has_level (Only Study) Study = true
has_level (Only Series) Series = true
has_level (Only Image) Image = true
has_level (Only own) level = false

-- a row of the table of records: group and element number, VR, greatest size of the value in bytes, type, and the
-- records that have it
abbrev pub record_rule : ℕ → ℕ → List ℕ → ℕ → ElementType → Levels → RecordRule
record_rule group element vr room kind levels = record {
  tag = record { 0 = group; 1 = element };
  vr = vr;
  room = room;
  kind = kind;
  levels = levels;
}

-- the keys from the data set: tag, VR, greatest size of the value in bytes, type (PS3.5 section 7.4), and the level
-- of the records that have it
abbrev pub key_table : List RecordRule
key_table =
    record_rule 0x0008 0x0005 (codes "CS") 64 Type1C Each
    ∷ record_rule 0x0008 0x0020 (codes "DA") 32 Type1 (Only Study)
    ∷ record_rule 0x0008 0x0030 (codes "TM") 32 Type1 (Only Study)
    ∷ record_rule 0x0008 0x0050 (codes "SH") 64 Type2 (Only Study)
    ∷ record_rule 0x0008 0x0060 (codes "CS") 64 Type1 (Only Series)
    ∷ record_rule 0x0008 0x1030 (codes "LO") 256 Type2 (Only Study)
    ∷ record_rule 0x0008 0x103e (codes "LO") 256 Type3 (Only Series)
    ∷ record_rule 0x0010 0x0010 (codes "PN") 512 Type2 (Only Patient)
    ∷ record_rule 0x0010 0x0020 (codes "LO") 256 Unique (Only Patient)
    ∷ record_rule 0x0020 0x000d (codes "UI") 64 Unique (Only Study)
    ∷ record_rule 0x0020 0x000e (codes "UI") 64 Unique (Only Series)
    ∷ record_rule 0x0020 0x0010 (codes "SH") 64 Type1 (Only Study)
    ∷ record_rule 0x0020 0x0011 (codes "IS") 32 Type1 (Only Series)
    ∷ record_rule 0x0020 0x0013 (codes "IS") 32 Type1 (Only Image)
    ∷ []

-- whether keys of this type are read from data sets, and so are in records: those of type 3 only if they are asked
-- for
abbrev pub reads_type : RecordKeys → ElementType → Bool
reads_type Needed Type3 = false
reads_type keys kind = true

-- whether a key is read
abbrev pub is_read : RecordKeys → RecordRule → Bool
is_read keys rule = reads_type keys rule.kind

-- the keys that are read
abbrev pub keys_read : RecordKeys → List RecordRule
keys_read keys = filter (is_read keys) key_table

-- all elements of records: the offsets of the next record and of the lower level, between them Record In-use Flag,
-- then Directory Record Type, the file ID, SOP class, SOP instance and transfer syntax of the file, and the keys
abbrev pub record_table : List RecordRule
record_table =
    record_rule 0x0004 0x1400 (codes "UL") 4 Type1C Each
    ∷ record_rule 0x0004 0x1410 (codes "US") 2 Type1C Each
    ∷ record_rule 0x0004 0x1420 (codes "UL") 4 Type1C Each
    ∷ record_rule 0x0004 0x1430 (codes "CS") 7 Type1C Each
    ∷ record_rule 0x0004 0x1500 (codes "CS") 71 Type1C (Only Image)
    ∷ record_rule 0x0004 0x1510 (codes "UI") 64 Type1C (Only Image)
    ∷ record_rule 0x0004 0x1511 (codes "UI") 64 Type1C (Only Image)
    ∷ record_rule 0x0004 0x1512 (codes "UI") 64 Type1C (Only Image)
    ∷ key_table

-- whether a type is that of a unique key, in which the records of its level differ; it is of type 1, too
abbrev pub is_unique : ElementType → Bool
is_unique Unique = true
is_unique kind = false

-- whether this is the unique key of a level, by which rows are grouped
abbrev pub groups : Level → RecordRule → Bool
groups level rule = is_unique rule.kind && has_level rule.levels level

-- the tag of a key and the greatest size of its value, for a walker
abbrev pub want_of : RecordRule → Want
want_of rule = record { tag = rule.tag; room = rule.room }
