-- Example file IDs (PS3.10 section 8.2), and faults of file headers.
use Rattle.std.specs.Prelude.{◌≡◌, [], ◌∷◌, ◌++◌, replicate, None, codes, Some}
use Rattle.dicomdir.specs.DirFault.{CheckFault}
use Rattle.dicomdir.specs.FileId.{file_id_of}
use Rattle.part10.specs.Examples.{least_header}
use Rattle.sequence.specs.Rules.{no_tag}

-- valid file IDs: of two components, and with spaces at the end; invalid ones: with a small letter, a space in front,
-- nine characters in a component, an empty component, and the empty one
abbrev pub FileIdsAreRead : Type 0
FileIdsAreRead =
    (file_id_of (codes "S0000001" ++ 92 ∷ codes "I_1  ") ≡ Some (codes "S0000001" ++ 92 ∷ codes "I_1"))
    × (file_id_of (codes "i1") ≡ None)
    × (file_id_of (codes " I1") ≡ None)
    × (file_id_of (codes "I00000001") ≡ None)
    × (file_id_of (codes "S1" ++ 92 ∷ 92 ∷ codes "I1") ≡ None)
    × (file_id_of [] ≡ None)

-- ---- faults of the file header, as a check of a directory reports them (this product's own profile)

-- the faults of an empty file, and of files in JPEG Baseline and in Implicit VR Little Endian
abbrev pub HeaderFaults : Type 0
HeaderFaults =
    CheckFault [] 50 128 no_tag
    × CheckFault (least_header (codes "1.2.840.10008.1.2.4.50") ++ replicate 20 0) 53 132 no_tag
    × CheckFault (least_header (codes "1.2.840.10008.1.2")) 53 132 no_tag
