-- Example directories: of one image (PS3.3 annex F), byte by byte, of more images, and of none.
use Rattle.std.specs.Prelude.{◌≡◌, ℕ, List, [], ◌∷◌, ◌++◌, length, replicate, None, codes, ◌+◌}
use Rattle.dictionary.specs.declared.transfer.Transfer.TheVariants.{Explicit}
use Rattle.element.specs.Numbers.{le}
use Rattle.sequence.specs.Tree.{Elements, no_elements, no_items, value, sequence}
use Rattle.dicomdir.specs.declared.level.Level.TheVariants.{Patient, Study, Series, Image}
use Rattle.dicomdir_writing.specs.Row.{Row}
use Rattle.dicomdir_writing.specs.Record.{tag, field, item_of, record_item, root_elements, spelled, record_for}
use Rattle.dicomdir.specs.Forest.{Forest, no_nodes, node, count_of}
use Rattle.dicomdir_writing.specs.TreeOf.{TreeOf}
use Rattle.dicomdir.specs.Directory.{IsDirectoryFile, Node, carried_node}
use Rattle.dicomdir.specs.Linked.{Linked, LinkedElements, carried_forest}
use Rattle.dicomdir.specs.DirFault.{directory_fault, fault}
use Rattle.dicomdir_writing.specs.Positions.{record_size, root_size, with_positions, flattened, offset_each, directory_elements, directory_of, directory_size, duplicates_of}
use Rattle.dicomdir.specs.NodesInUse.{HasNodes, pruned, KeptOf}

abbrev pub one_image_row : Row
one_image_row = record {
  file_id = codes "I0000001";
  class = codes "1.2.840.10008.5.1.4.1.1.2";
  instance = codes "1.2.3.1.1";
  syntax = Explicit;
  values =
      (0x00080020, codes "20260101")
      ∷ (0x00080030, codes "120000")
      ∷ (0x00080060, codes "CT")
      ∷ (0x00081030, codes "HEAD")
      ∷ (0x00100010, codes "DOE^JANE")
      ∷ (0x00100020, codes "P1")
      ∷ (0x0020000d, codes "1.2.3")
      ∷ (0x0020000e, codes "1.2.3.1")
      ∷ (0x00200010, codes "S1")
      ∷ (0x00200011, codes "1")
      ∷ (0x00200013, codes "1")
      ∷ [];
}

-- the file header, 266 bytes
abbrev pub one_image_header : List ℕ
one_image_header =
    replicate 128 0 ++ codes "DICM"
    ++ (2 ∷ 0 ∷ 0 ∷ 0 ∷ codes "UL") ++ (4 ∷ 0 ∷ 122 ∷ 0 ∷ 0 ∷ 0 ∷ [])
    ++ (2 ∷ 0 ∷ 1 ∷ 0 ∷ codes "OB") ++ (0 ∷ 0 ∷ 2 ∷ 0 ∷ 0 ∷ 0 ∷ 0 ∷ 1 ∷ [])
    ++ (2 ∷ 0 ∷ 2 ∷ 0 ∷ codes "UI") ++ (20 ∷ 0 ∷ codes "1.2.840.10008.1.3.10")
    ++ (2 ∷ 0 ∷ 3 ∷ 0 ∷ codes "UI") ++ (6 ∷ 0 ∷ codes "2.25.1")
    ++ (2 ∷ 0 ∷ 0x10 ∷ 0 ∷ codes "UI") ++ (20 ∷ 0 ∷ codes "1.2.840.10008.1.2.1") ++ (0 ∷ [])
    ++ (2 ∷ 0 ∷ 0x12 ∷ 0 ∷ codes "UI") ++ (14 ∷ 0 ∷ codes "2.25.20260101") ++ (0 ∷ [])
    ++ (2 ∷ 0 ∷ 0x13 ∷ 0 ∷ codes "SH") ++ (8 ∷ 0 ∷ codes "DCMBOX_1")

-- the root's elements, 54 bytes with the header of the sequence
abbrev pub one_image_root : List ℕ
one_image_root =
    (4 ∷ 0 ∷ 0x30 ∷ 0x11 ∷ codes "CS") ++ (0 ∷ 0 ∷ [])
    ++ (4 ∷ 0 ∷ 0 ∷ 0x12 ∷ codes "UL") ++ (4 ∷ 0 ∷ 64 ∷ 1 ∷ 0 ∷ 0 ∷ [])
    ++ (4 ∷ 0 ∷ 2 ∷ 0x12 ∷ codes "UL") ++ (4 ∷ 0 ∷ 64 ∷ 1 ∷ 0 ∷ 0 ∷ [])
    ++ (4 ∷ 0 ∷ 0x12 ∷ 0x12 ∷ codes "US") ++ (2 ∷ 0 ∷ 0 ∷ 0 ∷ [])
    ++ (4 ∷ 0 ∷ 0x20 ∷ 0x12 ∷ codes "SQ") ++ (0 ∷ 0 ∷ 212 ∷ 1 ∷ 0 ∷ 0 ∷ [])

-- the record of the patient, at byte 320, 84 bytes
abbrev pub one_image_patient : List ℕ
one_image_patient =
    (0xfe ∷ 0xff ∷ 0 ∷ 0xe0 ∷ 76 ∷ 0 ∷ 0 ∷ 0 ∷ [])
    ++ (4 ∷ 0 ∷ 0 ∷ 0x14 ∷ codes "UL") ++ (4 ∷ 0 ∷ 0 ∷ 0 ∷ 0 ∷ 0 ∷ [])
    ++ (4 ∷ 0 ∷ 0x10 ∷ 0x14 ∷ codes "US") ++ (2 ∷ 0 ∷ 255 ∷ 255 ∷ [])
    ++ (4 ∷ 0 ∷ 0x20 ∷ 0x14 ∷ codes "UL") ++ (4 ∷ 0 ∷ 148 ∷ 1 ∷ 0 ∷ 0 ∷ [])
    ++ (4 ∷ 0 ∷ 0x30 ∷ 0x14 ∷ codes "CS") ++ (8 ∷ 0 ∷ codes "PATIENT ")
    ++ (0x10 ∷ 0 ∷ 0x10 ∷ 0 ∷ codes "PN") ++ (8 ∷ 0 ∷ codes "DOE^JANE")
    ++ (0x10 ∷ 0 ∷ 0x20 ∷ 0 ∷ codes "LO") ++ (2 ∷ 0 ∷ codes "P1")

-- the record of the study, at byte 404, 130 bytes
abbrev pub one_image_study : List ℕ
one_image_study =
    (0xfe ∷ 0xff ∷ 0 ∷ 0xe0 ∷ 122 ∷ 0 ∷ 0 ∷ 0 ∷ [])
    ++ (4 ∷ 0 ∷ 0 ∷ 0x14 ∷ codes "UL") ++ (4 ∷ 0 ∷ 0 ∷ 0 ∷ 0 ∷ 0 ∷ [])
    ++ (4 ∷ 0 ∷ 0x10 ∷ 0x14 ∷ codes "US") ++ (2 ∷ 0 ∷ 255 ∷ 255 ∷ [])
    ++ (4 ∷ 0 ∷ 0x20 ∷ 0x14 ∷ codes "UL") ++ (4 ∷ 0 ∷ 22 ∷ 2 ∷ 0 ∷ 0 ∷ [])
    ++ (4 ∷ 0 ∷ 0x30 ∷ 0x14 ∷ codes "CS") ++ (6 ∷ 0 ∷ codes "STUDY ")
    ++ (8 ∷ 0 ∷ 0x20 ∷ 0 ∷ codes "DA") ++ (8 ∷ 0 ∷ codes "20260101")
    ++ (8 ∷ 0 ∷ 0x30 ∷ 0 ∷ codes "TM") ++ (6 ∷ 0 ∷ codes "120000")
    ++ (8 ∷ 0 ∷ 0x50 ∷ 0 ∷ codes "SH") ++ (0 ∷ 0 ∷ [])
    ++ (8 ∷ 0 ∷ 0x30 ∷ 0x10 ∷ codes "LO") ++ (4 ∷ 0 ∷ codes "HEAD")
    ++ (0x20 ∷ 0 ∷ 0x0d ∷ 0 ∷ codes "UI") ++ (6 ∷ 0 ∷ codes "1.2.3") ++ (0 ∷ [])
    ++ (0x20 ∷ 0 ∷ 0x10 ∷ 0 ∷ codes "SH") ++ (2 ∷ 0 ∷ codes "S1")

-- the record of the series, at byte 534, 92 bytes
abbrev pub one_image_series : List ℕ
one_image_series =
    (0xfe ∷ 0xff ∷ 0 ∷ 0xe0 ∷ 84 ∷ 0 ∷ 0 ∷ 0 ∷ [])
    ++ (4 ∷ 0 ∷ 0 ∷ 0x14 ∷ codes "UL") ++ (4 ∷ 0 ∷ 0 ∷ 0 ∷ 0 ∷ 0 ∷ [])
    ++ (4 ∷ 0 ∷ 0x10 ∷ 0x14 ∷ codes "US") ++ (2 ∷ 0 ∷ 255 ∷ 255 ∷ [])
    ++ (4 ∷ 0 ∷ 0x20 ∷ 0x14 ∷ codes "UL") ++ (4 ∷ 0 ∷ 114 ∷ 2 ∷ 0 ∷ 0 ∷ [])
    ++ (4 ∷ 0 ∷ 0x30 ∷ 0x14 ∷ codes "CS") ++ (6 ∷ 0 ∷ codes "SERIES")
    ++ (8 ∷ 0 ∷ 0x60 ∷ 0 ∷ codes "CS") ++ (2 ∷ 0 ∷ codes "CT")
    ++ (0x20 ∷ 0 ∷ 0x0e ∷ 0 ∷ codes "UI") ++ (8 ∷ 0 ∷ codes "1.2.3.1") ++ (0 ∷ [])
    ++ (0x20 ∷ 0 ∷ 0x11 ∷ 0 ∷ codes "IS") ++ (2 ∷ 0 ∷ codes "1 ")

-- the record of the image, at byte 626, 162 bytes
abbrev pub one_image_image : List ℕ
one_image_image =
    (0xfe ∷ 0xff ∷ 0 ∷ 0xe0 ∷ 154 ∷ 0 ∷ 0 ∷ 0 ∷ [])
    ++ (4 ∷ 0 ∷ 0 ∷ 0x14 ∷ codes "UL") ++ (4 ∷ 0 ∷ 0 ∷ 0 ∷ 0 ∷ 0 ∷ [])
    ++ (4 ∷ 0 ∷ 0x10 ∷ 0x14 ∷ codes "US") ++ (2 ∷ 0 ∷ 255 ∷ 255 ∷ [])
    ++ (4 ∷ 0 ∷ 0x20 ∷ 0x14 ∷ codes "UL") ++ (4 ∷ 0 ∷ 0 ∷ 0 ∷ 0 ∷ 0 ∷ [])
    ++ (4 ∷ 0 ∷ 0x30 ∷ 0x14 ∷ codes "CS") ++ (6 ∷ 0 ∷ codes "IMAGE ")
    ++ (4 ∷ 0 ∷ 0 ∷ 0x15 ∷ codes "CS") ++ (8 ∷ 0 ∷ codes "I0000001")
    ++ (4 ∷ 0 ∷ 0x10 ∷ 0x15 ∷ codes "UI") ++ (26 ∷ 0 ∷ codes "1.2.840.10008.5.1.4.1.1.2") ++ (0 ∷ [])
    ++ (4 ∷ 0 ∷ 0x11 ∷ 0x15 ∷ codes "UI") ++ (10 ∷ 0 ∷ codes "1.2.3.1.1") ++ (0 ∷ [])
    ++ (4 ∷ 0 ∷ 0x12 ∷ 0x15 ∷ codes "UI") ++ (20 ∷ 0 ∷ codes "1.2.840.10008.1.2.1") ++ (0 ∷ [])
    ++ (0x20 ∷ 0 ∷ 0x13 ∷ 0 ∷ codes "IS") ++ (2 ∷ 0 ∷ codes "1 ")

-- the file, 788 bytes
abbrev pub one_image_file : List ℕ
one_image_file =
    one_image_header
    ++ (one_image_root ++ one_image_patient ++ one_image_study ++ one_image_series ++ one_image_image)

-- the elements of the directory of one image, with these offsets of the root and of the records of patient, study and
-- series
abbrev pub one_image_elements : ℕ → ℕ → ℕ → ℕ → ℕ → ℕ → Elements
one_image_elements first last next study series image =
    root_elements first last
    (record_item next study (record_for Patient one_image_row)
    (record_item 0 series (record_for Study one_image_row)
    (record_item 0 image (record_for Series one_image_row)
    (record_item 0 0 (record_for Image one_image_row) no_items))))

-- the directory of one image is linked to the tree of its row: its offsets count from the first byte of the file
abbrev pub OneImageIsLinked : Type 0
OneImageIsLinked = Linked one_image_file (carried_forest (TreeOf (one_image_row ∷ [])))

-- the same directory with offsets that count from the end of the preamble
abbrev pub preamble_omitted : Elements
preamble_omitted = one_image_elements 192 192 0 276 406 498

-- the faults of the directory of one image: unchanged, none; the patient's next offset leads to itself, and to its
-- study; its offset of the lower level leads to no record, and is 0; the root's last offset leads to the study; and
-- offsets that count from the end of the preamble
abbrev pub OneImageFaults : Type 0
OneImageFaults =
    (directory_fault 266 (one_image_elements 320 320 0 404 534 626) ≡ None)
    × (directory_fault 266 (one_image_elements 320 320 320 404 534 626) ≡ fault 61 320)
    × (directory_fault 266 (one_image_elements 320 320 404 404 534 626) ≡ fault 62 320)
    × (directory_fault 266 (one_image_elements 320 320 0 405 534 626) ≡ fault 60 320)
    × (directory_fault 266 (one_image_elements 320 320 0 0 534 626) ≡ fault 63 404)
    × (directory_fault 266 (one_image_elements 320 404 0 404 534 626) ≡ fault 60 286)
    × (directory_fault 266 preamble_omitted ≡ fault 60 274)

-- that directory is a directory file, too, but linked to no tree
abbrev pub PreambleCounts : Type 0
PreambleCounts =
    IsDirectoryFile (one_image_header ++ spelled preamble_omitted) 266 preamble_omitted
    × ((tree : Forest Node) → ¬ LinkedElements 266 preamble_omitted tree)

-- the directory with another row for its image
abbrev pub with_image : Row → Elements
with_image row =
    root_elements 320 320
    (record_item 0 404 (record_for Patient one_image_row)
    (record_item 0 534 (record_for Study one_image_row)
    (record_item 0 626 (record_for Series one_image_row)
    (record_item 0 0 (record_for Image row) no_items))))

-- the faults of: a study as the record of the root, a file ID in small letters, a series below a patient; a root with
-- a first offset of two bytes alone, with a valid first offset alone, and with an offset of two bytes after another
-- element; a record without offsets, and an image without a file ID
abbrev pub RecordFaults : Type 0
RecordFaults =
    (directory_fault 266 (root_elements 320 320 (record_item 0 0 (record_for Study one_image_row) no_items)) ≡ fault 64 320)
    × (directory_fault 266 (with_image (record one_image_row { file_id = codes "i0000001" })) ≡ fault 65 626)
    × (directory_fault 266 (one_image_elements 320 320 0 534 0 626) ≡ fault 64 534)
    × (directory_fault 266 (field (tag 0x0004 0x1200) (codes "UL") (le 0 2) no_elements) ≡ fault 68 266)
    × (directory_fault 266 (field (tag 0x0004 0x1200) (codes "UL") (le 0 4) no_elements) ≡ fault 68 266)
    × (directory_fault 266 (field (tag 0x0004 0x1130) (codes "CS") [] (field (tag 0x0004 0x1200) (codes "UL") (le 0 2) no_elements)) ≡ fault 68 274)
    × (directory_fault 266 (root_elements 320 320 (item_of (record_for Patient one_image_row) no_items)) ≡ fault 68 320)
    × (directory_fault 266 (root_elements 320 320 (record_item 0 0
    (field (tag 0x0004 0x1410) (codes "US") (le 0xffff 2) (field (tag 0x0004 0x1430) (codes "CS") (codes "IMAGE ") no_elements)) no_items)) ≡ fault 65 320)

-- the directory of no rows has 320 bytes, and is linked to no node
abbrev pub no_rows_elements : Elements
no_rows_elements = root_elements 0 0 no_items

abbrev pub NoRowsAreLinked : Type 0
NoRowsAreLinked =
    (length (one_image_header ++ spelled no_rows_elements) ≡ 320)
    × Linked (one_image_header ++ spelled no_rows_elements) (carried_forest (TreeOf []))
    × (directory_fault 266 no_rows_elements ≡ None)

-- ---- rows of five files by which grouping, duplicates and file IDs are tried (PS3.3 section F.4)

-- a second image of the series, with other padding of its keys
abbrev pub second_row : Row
second_row = record one_image_row {
  file_id = codes "I0000002";
  instance = codes "1.2.3.1.2";
  values =
      (0x00100020, codes "P1  ")
      ∷ (0x0020000d, codes "1.2.3" ++ (0 ∷ []))
      ∷ (0x00200013, codes "2")
      ∷ one_image_row.values;
}

-- an image of another series of the study
abbrev pub third_row : Row
third_row = record one_image_row {
  file_id = codes "I0000003";
  instance = codes "1.2.3.2.1";
  values = (0x0020000e, codes "1.2.3.2") ∷ one_image_row.values;
}

-- the first instance again
abbrev pub duplicate_row : Row
duplicate_row = record one_image_row { file_id = codes "I0000004" }

-- an image of another patient
abbrev pub fourth_row : Row
fourth_row = record one_image_row {
  file_id = codes "I0000005";
  instance = codes "1.2.4.1.1";
  values =
      (0x00100020, codes "P2")
      ∷ (0x0020000d, codes "1.2.4")
      ∷ (0x0020000e, codes "1.2.4.1")
      ∷ one_image_row.values;
}

-- the tree of the first four rows has seven records; that of all, in another order, has each level in the order in
-- which keys are first seen, each record with the keys of its first row; that of no rows is empty
abbrev pub RowsAreGrouped : Type 0
RowsAreGrouped =
    (count_of (TreeOf (one_image_row ∷ second_row ∷ third_row ∷ duplicate_row ∷ [])) ≡ 7)
    × (TreeOf (third_row ∷ fourth_row ∷ second_row ∷ one_image_row ∷ duplicate_row ∷ [])
    ≡ node (record_for Patient third_row)
    (node (record_for Study third_row)
    (node (record_for Series third_row) (node (record_for Image third_row) no_nodes no_nodes)
    (node (record_for Series second_row)
    (node (record_for Image second_row) no_nodes (node (record_for Image one_image_row) no_nodes no_nodes))
    no_nodes))
    no_nodes)
    (node (record_for Patient fourth_row)
    (node (record_for Study fourth_row)
    (node (record_for Series fourth_row) (node (record_for Image fourth_row) no_nodes no_nodes) no_nodes)
    no_nodes)
    no_nodes))
    × (TreeOf [] ≡ no_nodes)

-- ---- positions and sizes of records, and duplicates, of rows whose directories are known byte by byte

-- of the directory of one image the sizes of its four records, their positions, the elements and the whole file; of two
-- images of a series the positions and the size; of no rows the elements and the size; and the duplicate among four
-- rows
abbrev pub PositionsAreAssigned : Type 0
PositionsAreAssigned =
    (root_size ≡ 54)
    × (record_size (record_for Patient one_image_row) ≡ 84)
    × (record_size (record_for Study one_image_row) ≡ 130)
    × (record_size (record_for Series one_image_row) ≡ 92)
    × (record_size (record_for Image one_image_row) ≡ 162)
    × (offset_each (flattened (with_positions 320 (TreeOf (one_image_row ∷ [])))) ≡ 320 ∷ 404 ∷ 534 ∷ 626 ∷ [])
    × (directory_size 266 (one_image_row ∷ []) ≡ 788)
    × (directory_elements 266 (TreeOf (one_image_row ∷ [])) ≡ one_image_elements 320 320 0 404 534 626)
    × (directory_of one_image_header (one_image_row ∷ []) ≡ one_image_file)
    × (offset_each (flattened (with_positions 320 (TreeOf (one_image_row ∷ second_row ∷ [])))) ≡ 320 ∷ 404 ∷ 534 ∷ 626 ∷ 788 ∷ [])
    × (directory_size 266 (one_image_row ∷ second_row ∷ []) ≡ 950)
    × (directory_elements 266 (TreeOf []) ≡ no_rows_elements)
    × (directory_size 266 [] ≡ 320)
    × (duplicates_of (one_image_row ∷ second_row ∷ third_row ∷ duplicate_row ∷ []) ≡ 3 ∷ [])

-- the directory of any rows has the size for which its offsets are computed, and as many records as the tree has
-- nodes
abbrev pub SizesAreTrue : Type 0
SizesAreTrue =
    (front : List ℕ) (rows : List Row)
    → (length (directory_of front rows) ≡ directory_size (length front) rows)
    × (length (flattened (with_positions (length front + root_size) (TreeOf rows))) ≡ count_of (TreeOf rows))

-- ---- the records of the directory of one image, with their positions and levels

abbrev pub OneImageHasNodes : Type 0
OneImageHasNodes =
    HasNodes one_image_file
    (record { offset = 320; level = 1; carries = carried_node (record_for Patient one_image_row) }
    ∷ record { offset = 404; level = 2; carries = carried_node (record_for Study one_image_row) }
    ∷ record { offset = 534; level = 3; carries = carried_node (record_for Series one_image_row) }
    ∷ record { offset = 626; level = 4; carries = carried_node (record_for Image one_image_row) }
    ∷ [])

-- ---- two images of a series, of which a record is inactive

-- the elements of a record with this Record In-use Flag, which is the first of them
abbrev pub flagged : ℕ → Elements → Elements
flagged flag no_elements = no_elements
flagged flag (value h v es) = value h (le flag 2) es
flagged flag (sequence h is es) = sequence h is es

-- the tree of two images, with these flags of the series and of its first image
abbrev pub two_images : ℕ → ℕ → Forest Elements
two_images series image =
    node (record_for Patient one_image_row)
    (node (record_for Study one_image_row)
    (node (flagged series (record_for Series one_image_row))
    (node (flagged image (record_for Image one_image_row)) no_nodes
    (node (record_for Image second_row) no_nodes no_nodes))
    no_nodes)
    no_nodes)
    no_nodes

-- the directory of one image, whose record has this flag and to which no offset leads
abbrev pub unnamed_image : ℕ → Elements
unnamed_image image =
    root_elements 320 320
    (record_item 0 404 (record_for Patient one_image_row)
    (record_item 0 534 (record_for Study one_image_row)
    (record_item 0 0 (record_for Series one_image_row)
    (record_item 0 0 (flagged image (record_for Image one_image_row)) no_items))))

-- what a check finds: all records in use; the first image inactive; the series inactive; an invalid flag; an image to
-- which no offset leads, in use and inactive
abbrev pub InactiveRecords : Type 0
InactiveRecords =
    (directory_fault 266 (directory_elements 266 (two_images 0xffff 0xffff)) ≡ None)
    × (KeptOf (carried_forest (two_images 0xffff 0xffff)) ≡ codes "I0000001" ∷ codes "I0000002" ∷ [])
    × (directory_fault 266 (directory_elements 266 (two_images 0xffff 0)) ≡ None)
    × (KeptOf (carried_forest (two_images 0xffff 0)) ≡ codes "I0000002" ∷ [])
    × (count_of (pruned (carried_forest (two_images 0xffff 0))) ≡ 4)
    × (directory_fault 266 (directory_elements 266 (two_images 0 0xffff)) ≡ None)
    × (KeptOf (carried_forest (two_images 0 0xffff)) ≡ [])
    × (count_of (pruned (carried_forest (two_images 0 0xffff))) ≡ 2)
    × (directory_fault 266 (directory_elements 266 (two_images 0xffff 1)) ≡ fault 68 626)
    × (directory_fault 266 (unnamed_image 0xffff) ≡ fault 63 626)
    × (directory_fault 266 (unnamed_image 0) ≡ None)
