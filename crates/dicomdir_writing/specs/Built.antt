-- The directory file that this product builds from rows, and why it builds none (PS3.10 sections 7.1 and 8.6).
use Rattle.std.specs.Prelude.{◌≡◌, ℕ, Bool, true, List, length, replicate, codes, Option, take}
use Rattle.dictionary.specs.declared.transfer.Transfer.TheVariants.{Explicit}
use Rattle.part10.specs.declared.meta.Meta.{Meta}
use Rattle.part10.specs.File.{head}
use Rattle.sequence.specs.Rules.{no_tag}
use Rattle.dicomdir.specs.declared.fault.DirFault.{DirFault}
use Rattle.dicomdir_writing.specs.Positions.{directory_of, is_too_large}
use Rattle.dicomdir_writing.specs.Row.{Row}
use Rattle.std.specs.Io.KnownBytes.{Appends}
use Rattle.dicomdir.specs.FaultNumbers as numbered

-- what a directory is built from: the SOP Instance UID of its file, and the rows
pub record BuiltFrom : Type 0 where
  pub uid : List ℕ
  pub rows : List Row

-- the UID of the SOP class Media Storage Directory Storage (PS3.6 annex A)
abbrev pub directory_class : List ℕ
directory_class = codes "1.2.840.10008.1.3.10"

-- the contents of the File Meta Information; the sender's AE title is all spaces, so it is left out
abbrev pub directory_meta : List ℕ → Meta
directory_meta uid = record {
  class = directory_class;
  instance = uid;
  syntax = Explicit;
  calling = record { 0 = replicate 16 32 };
}

-- preamble, prefix and File Meta Information of a directory file
unfoldable pub directory_header : List ℕ → List ℕ
directory_header uid = head (directory_meta uid)

-- the bytes of the directory file
abbrev pub directory_file : BuiltFrom → List ℕ
directory_file built = directory_of (directory_header built.uid) built.rows

-- whether the directory file has more than `most` bytes
abbrev pub file_is_too_large : ℕ → List ℕ → List Row → Bool
file_is_too_large most uid rows = is_too_large most (length (directory_header uid)) rows

-- the fault of a file that is too large
abbrev pub too_large_fault : DirFault
too_large_fault = record { number = numbered.too_large; offset = 0; tag = no_tag }

-- the fault of memory that ran out
abbrev pub memory_fault : DirFault
memory_fault = record { number = numbered.out_of_memory; offset = 0; tag = no_tag }

-- no directory is built if its file is too large, or if memory ran out
pub data IsNotBuilt (most : ℕ) (uid : List ℕ) (rows : List Row) (f : DirFault) : Type 0 where
  too_large : file_is_too_large most uid rows ≡ true → f ≡ too_large_fault → IsNotBuilt most uid rows f
  no_memory : f ≡ memory_fault → IsNotBuilt most uid rows f

-- if memory did not run out, a directory is not built because its file is too large
abbrev pub FailsAsTooLarge : DirFault → Type 0
FailsAsTooLarge f = (f ≡ memory_fault → ⊥) → f ≡ too_large_fault

-- ---- the part of a text that is written if a write fails

-- the first bytes of the text, from none to all, were appended
abbrev pub AppendsFront : Option (List ℕ) → Option (List ℕ) → List ℕ → Type 0
AppendsFront old new text = (count : ℕ) × Appends old new (take count text)
