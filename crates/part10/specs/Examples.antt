-- Example files for the definitions of File Meta Information (PS3.10 section 7.1).
use Rattle.std.specs.Prelude.{◌≡◌, ℕ, List, [], ◌++◌, length, take, drop, replicate, codes}
use Rattle.dictionary.specs.declared.transfer.Transfer.TheVariants.{Explicit}
use Rattle.element.specs.Numbers.{le}
use Rattle.part10.specs.declared.meta.Meta.{Meta}
use Rattle.part10.specs.File.{meta_element, uid_element, length_element, head, File}
use Rattle.part10.specs.declared.meta_fault.MetaFault.TheVariants.{NotPart10, BadMeta, OtherSyntax}
use Rattle.part10.specs.MetaText.{MetaValues, SpellsMeta, MetaFaultOf}

-- a CT image from SCANNER1
abbrev pub ct_meta : Meta
ct_meta = record {
  class = codes "1.2.840.10008.5.1.4.1.1.2";
  instance = codes "1.2.3";
  syntax = Explicit;
  calling = record { 0 = codes "SCANNER1        " };
}

-- the File Meta Information ends at byte 288, as its group length says, and with 48 bytes of data set the file has
-- 336
abbrev pub OneCtStore : Type 0
OneCtStore =
    (length (head ct_meta) ≡ 288)
    × (take 12 (drop 132 (head ct_meta)) ≡ meta_element 0x0000 (codes "UL") (le 144 4))
    × (length (File ct_meta (replicate 48 0)) ≡ 336)

-- files without File Meta Information: an empty one, zeros alone, the prefix DICM too early; nothing after the
-- prefix, and a truncated element there
abbrev pub NoHeaders : Type 0
NoHeaders =
    MetaFaultOf [] NotPart10
    × MetaFaultOf (replicate 300 0) NotPart10
    × MetaFaultOf (replicate 127 0 ++ codes "DICM" ++ replicate 100 0) NotPart10
    × MetaFaultOf (replicate 128 0 ++ codes "DICM") BadMeta
    × MetaFaultOf (replicate 128 0 ++ codes "DICM" ++ take 11 (length_element 34)) BadMeta

-- the elements of group 0002 that are required, for this transfer syntax
abbrev pub least_group : List ℕ → List ℕ
least_group syntax =
    uid_element 0x0002 (codes "1.2.840.10008.5.1.4.1.1.2") ++ (uid_element 0x0003 (codes "1.2.3") ++ uid_element 0x0010 syntax)

-- File Meta Information with the required elements alone, after a preamble that is not all zeros
abbrev pub least_header : List ℕ → List ℕ
least_header syntax =
    replicate 128 7 ++ codes "DICM" ++ length_element (length (least_group syntax)) ++ least_group syntax

abbrev pub least_said : List ℕ → MetaValues
least_said syntax = record { class = codes "1.2.840.10008.5.1.4.1.1.2"; instance = codes "1.2.3"; syntax = syntax }

-- a file in Explicit VR Little Endian is accepted, one in JPEG Baseline is a fault
abbrev pub SyntaxIsSaid : Type 0
SyntaxIsSaid =
    SpellsMeta (least_said (codes "1.2.840.10008.1.2.1")) (least_header (codes "1.2.840.10008.1.2.1"))
    × MetaFaultOf (least_header (codes "1.2.840.10008.1.2.4.50") ++ replicate 20 0) OtherSyntax
