-- The registry of data elements (PS3.6 section 6), as far as this product uses it. That PixelData has VR OW, and which
-- tags are known, is this product's own profile.
use Rattle.std.specs.Prelude.{ℕ, Bool, ◌&&◌, List, [], ◌∷◌, Option, nat_eq, codes}
use Rattle.std.specs.List.{find}
use Rattle.std.specs.Option.{option_map}
use Rattle.element.specs.declared.tag.Tag.{Tag}

-- a row of the registry: group, element, the letters of the VR and the keyword
pub record Row : Type 0 where
  pub group : ℕ
  pub element : ℕ
  pub vr : List ℕ
  pub name : List ℕ

-- the rows of the registry that the product knows
abbrev pub registry : List Row
registry =
    record { group = 0x0008; element = 0x0005; vr = codes "CS"; name = codes "SpecificCharacterSet" }
    ∷ record { group = 0x0008; element = 0x0008; vr = codes "CS"; name = codes "ImageType" }
    ∷ record { group = 0x0008; element = 0x0016; vr = codes "UI"; name = codes "SOPClassUID" }
    ∷ record { group = 0x0008; element = 0x0018; vr = codes "UI"; name = codes "SOPInstanceUID" }
    ∷ record { group = 0x0008; element = 0x0020; vr = codes "DA"; name = codes "StudyDate" }
    ∷ record { group = 0x0008; element = 0x0021; vr = codes "DA"; name = codes "SeriesDate" }
    ∷ record { group = 0x0008; element = 0x0022; vr = codes "DA"; name = codes "AcquisitionDate" }
    ∷ record { group = 0x0008; element = 0x0023; vr = codes "DA"; name = codes "ContentDate" }
    ∷ record { group = 0x0008; element = 0x0030; vr = codes "TM"; name = codes "StudyTime" }
    ∷ record { group = 0x0008; element = 0x0031; vr = codes "TM"; name = codes "SeriesTime" }
    ∷ record { group = 0x0008; element = 0x0050; vr = codes "SH"; name = codes "AccessionNumber" }
    ∷ record { group = 0x0008; element = 0x0060; vr = codes "CS"; name = codes "Modality" }
    ∷ record { group = 0x0008; element = 0x0070; vr = codes "LO"; name = codes "Manufacturer" }
    ∷ record { group = 0x0008; element = 0x0080; vr = codes "LO"; name = codes "InstitutionName" }
    ∷ record { group = 0x0008; element = 0x0090; vr = codes "PN"; name = codes "ReferringPhysicianName" }
    ∷ record { group = 0x0008; element = 0x0100; vr = codes "SH"; name = codes "CodeValue" }
    ∷ record { group = 0x0008; element = 0x0102; vr = codes "SH"; name = codes "CodingSchemeDesignator" }
    ∷ record { group = 0x0008; element = 0x0104; vr = codes "LO"; name = codes "CodeMeaning" }
    ∷ record { group = 0x0008; element = 0x1030; vr = codes "LO"; name = codes "StudyDescription" }
    ∷ record { group = 0x0008; element = 0x1032; vr = codes "SQ"; name = codes "ProcedureCodeSequence" }
    ∷ record { group = 0x0008; element = 0x103E; vr = codes "LO"; name = codes "SeriesDescription" }
    ∷ record { group = 0x0008; element = 0x1110; vr = codes "SQ"; name = codes "ReferencedStudySequence" }
    ∷ record { group = 0x0008; element = 0x1111; vr = codes "SQ"; name = codes "ReferencedPerformedProcedureStepSequence" }
    ∷ record { group = 0x0008; element = 0x1140; vr = codes "SQ"; name = codes "ReferencedImageSequence" }
    ∷ record { group = 0x0008; element = 0x1150; vr = codes "UI"; name = codes "ReferencedSOPClassUID" }
    ∷ record { group = 0x0008; element = 0x1155; vr = codes "UI"; name = codes "ReferencedSOPInstanceUID" }
    ∷ record { group = 0x0008; element = 0x2112; vr = codes "SQ"; name = codes "SourceImageSequence" }
    ∷ record { group = 0x0010; element = 0x0010; vr = codes "PN"; name = codes "PatientName" }
    ∷ record { group = 0x0010; element = 0x0020; vr = codes "LO"; name = codes "PatientID" }
    ∷ record { group = 0x0010; element = 0x0030; vr = codes "DA"; name = codes "PatientBirthDate" }
    ∷ record { group = 0x0010; element = 0x0040; vr = codes "CS"; name = codes "PatientSex" }
    ∷ record { group = 0x0010; element = 0x1010; vr = codes "AS"; name = codes "PatientAge" }
    ∷ record { group = 0x0018; element = 0x0050; vr = codes "DS"; name = codes "SliceThickness" }
    ∷ record { group = 0x0018; element = 0x0060; vr = codes "DS"; name = codes "KVP" }
    ∷ record { group = 0x0020; element = 0x000D; vr = codes "UI"; name = codes "StudyInstanceUID" }
    ∷ record { group = 0x0020; element = 0x000E; vr = codes "UI"; name = codes "SeriesInstanceUID" }
    ∷ record { group = 0x0020; element = 0x0010; vr = codes "SH"; name = codes "StudyID" }
    ∷ record { group = 0x0020; element = 0x0011; vr = codes "IS"; name = codes "SeriesNumber" }
    ∷ record { group = 0x0020; element = 0x0013; vr = codes "IS"; name = codes "InstanceNumber" }
    ∷ record { group = 0x0020; element = 0x0032; vr = codes "DS"; name = codes "ImagePositionPatient" }
    ∷ record { group = 0x0020; element = 0x0037; vr = codes "DS"; name = codes "ImageOrientationPatient" }
    ∷ record { group = 0x0020; element = 0x0052; vr = codes "UI"; name = codes "FrameOfReferenceUID" }
    ∷ record { group = 0x0028; element = 0x0002; vr = codes "US"; name = codes "SamplesPerPixel" }
    ∷ record { group = 0x0028; element = 0x0004; vr = codes "CS"; name = codes "PhotometricInterpretation" }
    ∷ record { group = 0x0028; element = 0x0008; vr = codes "IS"; name = codes "NumberOfFrames" }
    ∷ record { group = 0x0028; element = 0x0010; vr = codes "US"; name = codes "Rows" }
    ∷ record { group = 0x0028; element = 0x0011; vr = codes "US"; name = codes "Columns" }
    ∷ record { group = 0x0028; element = 0x0030; vr = codes "DS"; name = codes "PixelSpacing" }
    ∷ record { group = 0x0028; element = 0x0100; vr = codes "US"; name = codes "BitsAllocated" }
    ∷ record { group = 0x0028; element = 0x0101; vr = codes "US"; name = codes "BitsStored" }
    ∷ record { group = 0x0028; element = 0x0102; vr = codes "US"; name = codes "HighBit" }
    ∷ record { group = 0x0028; element = 0x0103; vr = codes "US"; name = codes "PixelRepresentation" }
    ∷ record { group = 0x0028; element = 0x1050; vr = codes "DS"; name = codes "WindowCenter" }
    ∷ record { group = 0x0028; element = 0x1051; vr = codes "DS"; name = codes "WindowWidth" }
    ∷ record { group = 0x0028; element = 0x1052; vr = codes "DS"; name = codes "RescaleIntercept" }
    ∷ record { group = 0x0028; element = 0x1053; vr = codes "DS"; name = codes "RescaleSlope" }
    ∷ record { group = 0x0040; element = 0x0275; vr = codes "SQ"; name = codes "RequestAttributesSequence" }
    ∷ record { group = 0x0040; element = 0xA730; vr = codes "SQ"; name = codes "ContentSequence" }
    ∷ record { group = 0x7FE0; element = 0x0010; vr = codes "OW"; name = codes "PixelData" }
    ∷ record { group = 0xFFFA; element = 0xFFFA; vr = codes "SQ"; name = codes "DigitalSignaturesSequence" }
    ∷ record { group = 0xFFFC; element = 0xFFFC; vr = codes "OB"; name = codes "DataSetTrailingPadding" }
    ∷ []

-- whether the row is that of this group and element
abbrev pub is_at : ℕ → ℕ → Row → Bool
is_at group element row = nat_eq group row.group && nat_eq element row.element

-- the row of a tag
-- e.g. option_map (λ row. row.vr) (row_of 0x0008 0x0016) ≡ Some (codes "UI")
unfoldable pub row_of : ℕ → ℕ → Option Row
row_of group element = find (is_at group element) registry

-- the VR of a tag, where it is known
-- e.g. vr_of (record { 0 = 0x7fe0; 1 = 0x0010 }) ≡ Some (codes "OW"); vr_of (record { 0 = 0x0009; 1 = 0x0010 }) ≡ None
abbrev pub vr_of : Tag → Option (List ℕ)
vr_of tag = option_map (λ row. row.vr) (row_of tag.0 tag.1)

abbrev pub name_of : Tag → Option (List ℕ)
name_of tag = option_map (λ row. row.name) (row_of tag.0 tag.1)
