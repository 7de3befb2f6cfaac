-- Example data sets for the definitions (PS3.5 sections 7.5 and A.4), each with one that has another result.
use Rattle.std.specs.Prelude.{ℕ, ◌^◌, List, [], ◌∷◌, ◌++◌, take, drop, Some, None, codes}
use Rattle.sequence.specs.declared.coding.Coding.{Coding}
use Rattle.element.specs.declared.header.Header.{Header}
use Rattle.sequence.specs.declared.wanted.Want.{Want}
use Rattle.sequence.specs.declared.step.Step.{Step}
use Rattle.sequence.specs.declared.step.Step.TheVariants.{Element, Opened, Closed}
use Rattle.sequence.specs.Answering.{Answers, IsRun}
use Rattle.sequence.specs.declared.coding.Coding.TheVariants.{Implicit, Explicit, Encapsulated}
use Rattle.element.specs.declared.tag.Tag.{Tag}
use Rattle.sequence.specs.Rules.{Limits, no_tag}
use Rattle.sequence.specs.Walk.{Report, Reports}

-- limits: these tags are wanted, at most `depth` levels are open, and the data set has at most 2^40 bytes
abbrev pub wanting : List Want → ℕ → Limits
wanting wanted depth = record { wanted = wanted; depth = depth; bytes = 2 ^ 40 }

-- limits: no tag is wanted, and at most `depth` levels are open
abbrev pub levels_of : ℕ → Limits
levels_of depth = wanting [] depth

-- a walker's report without a fault: the number of open levels, of bytes read and of bytes held
abbrev pub going_on : ℕ → ℕ → ℕ → Report
going_on levels offset held = record { fault = None; levels = levels; offset = offset; held = held; kept = [] }

-- a walker's report of a fault: the number of the rule, the position and the tag of the header; then the number of
-- open levels, of bytes read and of bytes held
abbrev pub faulty : ℕ → ℕ → Tag → ℕ → ℕ → ℕ → Report
faulty number at tag levels offset held = record { fault = Some (record { number = number; offset = at; tag = tag }); levels = levels; offset = offset; held = held; kept = [] }

abbrev pub two_levels : List ℕ
two_levels =
    64 ∷ 0 ∷ 117 ∷ 2 ∷ 255 ∷ 255 ∷ 255 ∷ 255 ∷ 254 ∷ 255 ∷ 0 ∷ 224 ∷ 255 ∷ 255 ∷ 255 ∷ 255 ∷ 8 ∷ 0 ∷ 96 ∷ []

abbrev pub four_levels : List ℕ
four_levels =
    64 ∷ 0 ∷ 117 ∷ 2 ∷ 255 ∷ 255 ∷ 255 ∷ 255 ∷ 254 ∷ 255 ∷ 0 ∷ 224 ∷ 26 ∷ 0 ∷ 0 ∷ 0 ∷ 64 ∷ 0 ∷ 48 ∷ 167 ∷ 18 ∷ 0 ∷ 0 ∷ 0
    ∷ 254 ∷ 255 ∷ 0 ∷ 224 ∷ 10 ∷ 0 ∷ 0 ∷ 0 ∷ 8 ∷ 0 ∷ 4 ∷ 1 ∷ 2 ∷ 0 ∷ 0 ∷ 0 ∷ 65 ∷ 66 ∷ 254 ∷ 255 ∷ 221 ∷ 224 ∷ 0 ∷ 0
    ∷ 0 ∷ 0 ∷ 224 ∷ 127 ∷ 16 ∷ 0 ∷ 2 ∷ 0 ∷ 0 ∷ 0 ∷ 0 ∷ 0 ∷ []

abbrev pub past_item : List ℕ
past_item =
    64 ∷ 0 ∷ 117 ∷ 2 ∷ 255 ∷ 255 ∷ 255 ∷ 255 ∷ 254 ∷ 255 ∷ 0 ∷ 224 ∷ 14 ∷ 0 ∷ 0 ∷ 0 ∷ 8 ∷ 0 ∷ 96 ∷ 0 ∷ 2 ∷ 0 ∷ 0 ∷ 0
    ∷ 67 ∷ 84 ∷ []

abbrev pub level_past_item : List ℕ
level_past_item =
    64 ∷ 0 ∷ 117 ∷ 2 ∷ 255 ∷ 255 ∷ 255 ∷ 255 ∷ 254 ∷ 255 ∷ 0 ∷ 224 ∷ 8 ∷ 0 ∷ 0 ∷ 0 ∷ 64 ∷ 0 ∷ 48 ∷ 167 ∷ 255 ∷ 255 ∷ 255 ∷ 255 ∷ []

abbrev pub third_level : List ℕ
third_level =
    64 ∷ 0 ∷ 117 ∷ 2 ∷ 255 ∷ 255 ∷ 255 ∷ 255 ∷ 254 ∷ 255 ∷ 0 ∷ 224 ∷ 255 ∷ 255 ∷ 255 ∷ 255 ∷ 64 ∷ 0 ∷ 48 ∷ 167 ∷ 255 ∷ 255 ∷ 255 ∷ 255 ∷ []

abbrev pub empty_third : List ℕ
empty_third =
    64 ∷ 0 ∷ 117 ∷ 2 ∷ 255 ∷ 255 ∷ 255 ∷ 255 ∷ 254 ∷ 255 ∷ 0 ∷ 224 ∷ 255 ∷ 255 ∷ 255 ∷ 255 ∷ 64 ∷ 0 ∷ 48 ∷ 167 ∷ 0 ∷ 0 ∷ 0 ∷ 0 ∷ []

abbrev pub unknown : List ℕ
unknown =
    9 ∷ 0 ∷ 1 ∷ 16 ∷ 85 ∷ 78 ∷ 0 ∷ 0 ∷ 255 ∷ 255 ∷ 255 ∷ 255 ∷ 254 ∷ 255 ∷ 0 ∷ 224 ∷ 10 ∷ 0 ∷ 0 ∷ 0 ∷ 8 ∷ 0 ∷ 96 ∷ 0
    ∷ 2 ∷ 0 ∷ 0 ∷ 0 ∷ 67 ∷ 84 ∷ 254 ∷ 255 ∷ 221 ∷ 224 ∷ 0 ∷ 0 ∷ 0 ∷ 0 ∷ []

abbrev pub pixels : List ℕ
pixels =
    224 ∷ 127 ∷ 16 ∷ 0 ∷ 79 ∷ 66 ∷ 0 ∷ 0 ∷ 255 ∷ 255 ∷ 255 ∷ 255 ∷ []

-- the data set of a CT image: SOP Class UID and SOP Instance UID
abbrev pub one_store : List ℕ
one_store =
    8 ∷ 0 ∷ 22 ∷ 0 ∷ 85 ∷ 73 ∷ 26 ∷ 0 ∷ 49 ∷ 46 ∷ 50 ∷ 46 ∷ 56 ∷ 52 ∷ 48 ∷ 46 ∷ 49 ∷ 48 ∷ 48 ∷ 48 ∷ 56 ∷ 46 ∷ 53 ∷ 46 ∷ 49 ∷ 46 ∷ 52 ∷ 46 ∷ 49 ∷ 46 ∷ 49 ∷ 46 ∷ 50 ∷ 0
    ∷ 8 ∷ 0 ∷ 24 ∷ 0 ∷ 85 ∷ 73 ∷ 6 ∷ 0 ∷ 49 ∷ 46 ∷ 50 ∷ 46 ∷ 51 ∷ 0 ∷ []

-- a sequence and an item of undefined length, and three bytes of a header
abbrev pub TwoOpenLevels : Type 0
TwoOpenLevels = Reports Implicit (levels_of 64) two_levels (going_on 2 19 35)

-- four levels, of which three have defined length and end with the same byte: four are open before it, one after it,
-- and none after the delimitation
abbrev pub FourLevels : Type 0
FourLevels =
    Reports Implicit (levels_of 64) (take 41 four_levels) (going_on 4 41 64)
    × Reports Implicit (levels_of 64) (take 42 four_levels) (going_on 1 42 16)
    × Reports Implicit (levels_of 64) four_levels (going_on 0 60 0)

-- an item whose last bytes are too few for a header; one byte before, the text has no fault
abbrev pub PastItsItem : Type 0
PastItsItem =
    (wanted : List Want)
    → Reports Implicit (wanting wanted 64) past_item (faulty 17 26 no_tag 2 26 32)
    × Reports Implicit (wanting wanted 64) (take 25 past_item) (going_on 2 25 32)
    × Reports Implicit (wanting wanted 64) level_past_item (faulty 17 24 no_tag 3 24 48)

-- a third level where two may be open; an empty sequence opens no level
abbrev pub TooDeep : Type 0
TooDeep =
    (wanted : List Want)
    → Reports Implicit (wanting wanted 2) third_level (faulty 18 16 (record { 0 = 0x0040; 1 = 0xa730 }) 2 24 32)
    × Reports Implicit (wanting wanted 2) empty_third (going_on 2 24 32)

-- an element of VR UN and undefined length has items in Implicit; native Pixel Data may not have undefined length
abbrev pub UnknownContent : Type 0
UnknownContent =
    (wanted : List Want)
    → Reports Explicit (wanting wanted 64) unknown (going_on 0 38 0)
    × Reports Explicit (wanting wanted 64) pixels (faulty 14 0 (record { 0 = 0x7fe0; 1 = 0x0010 }) 0 12 0)

-- SOP Class UID and SOP Instance UID are wanted, each of at most 64 bytes
abbrev pub identifiers : List Want
identifiers = record { tag = record { 0 = 0x0008; 1 = 0x0016 }; room = 64 } ∷ record { tag = record { 0 = 0x0008; 1 = 0x0018 }; room = 64 } ∷ []

-- the data set of the CT image breaks no rule, and both identifiers are kept
abbrev pub OneStore : Type 0
OneStore =
    Reports Explicit (wanting identifiers 64) one_store (record {
      fault = None;
      levels = 0;
      offset = 48;
      held = 32;
      kept = (0x00080016, take 26 (drop 8 one_store)) ∷ (0x00080018, drop 42 one_store) ∷ [];
    })

-- after the first `from` bytes of the text, a step consumes `size` bytes and returns this
abbrev pub Steps : Coding → ℕ → List ℕ → ℕ → ℕ → Step → Type 0
Steps s depth text from size step = Answers s (levels_of depth) (take from text) (drop from text) (take size (drop from text)) step

-- after the first `from` bytes of the text, a step consumes `size` bytes of a value and returns them
abbrev pub StepsRun : Coding → ℕ → List ℕ → ℕ → ℕ → Type 0
StepsRun s depth text from size = (step : Step) → IsRun (take size (drop from text)) step → Steps s depth text from size step

abbrev pub plain_header : ℕ → ℕ → ℕ → Header
plain_header group number length = record { tag = record { 0 = group; 1 = number }; vr = None; length = length }

abbrev pub identifier_header : ℕ → ℕ → Header
identifier_header number length = record { tag = record { 0 = 0x0008; 1 = number }; vr = Some (codes "UI"); length = length }

-- the steps of the data set of the CT image: a header, a value, a header, a value
abbrev pub AlongOneStore : Type 0
AlongOneStore =
    Steps Explicit 64 one_store 0 8 (Element (identifier_header 0x0016 26))
    × StepsRun Explicit 64 one_store 8 26
    × Steps Explicit 64 one_store 34 8 (Element (identifier_header 0x0018 6))
    × StepsRun Explicit 64 one_store 42 6

-- the steps of four levels, of which three end with the value and one by a delimitation
abbrev pub AlongFourLevels : Type 0
AlongFourLevels =
    Steps Implicit 64 four_levels 0 8 (Element (plain_header 0x0040 0x0275 0xffffffff))
    × Steps Implicit 64 four_levels 8 8 (Opened (plain_header 0xfffe 0xe000 26))
    × Steps Implicit 64 four_levels 16 8 (Element (plain_header 0x0040 0xa730 18))
    × Steps Implicit 64 four_levels 24 8 (Opened (plain_header 0xfffe 0xe000 10))
    × Steps Implicit 64 four_levels 32 8 (Element (plain_header 0x0008 0x0104 2))
    × StepsRun Implicit 64 four_levels 40 2
    × Steps Implicit 64 four_levels 42 8 (Closed (plain_header 0xfffe 0xe0dd 0))
    × Steps Implicit 64 four_levels 50 8 (Element (plain_header 0x7fe0 0x0010 2))
    × StepsRun Implicit 64 four_levels 58 2

-- ---- encapsulated Pixel Data, after the standard's examples (PS3.5 Tables A.4-1, A.4-2), whose fragments are longer

abbrev pub pixel_data_header : List ℕ
pixel_data_header = 224 ∷ 127 ∷ 16 ∷ 0 ∷ 79 ∷ 66 ∷ 0 ∷ 0 ∷ 255 ∷ 255 ∷ 255 ∷ 255 ∷ []

-- a frame of three fragments after an empty Basic Offset Table
abbrev pub one_frame : List ℕ
one_frame =
    224 ∷ 127 ∷ 16 ∷ 0 ∷ 79 ∷ 66 ∷ 0 ∷ 0 ∷ 255 ∷ 255 ∷ 255 ∷ 255 ∷ 254 ∷ 255 ∷ 0 ∷ 224 ∷ 0 ∷ 0 ∷ 0 ∷ 0
    ∷ 254 ∷ 255 ∷ 0 ∷ 224 ∷ 4 ∷ 0 ∷ 0 ∷ 0 ∷ 255 ∷ 216 ∷ 254 ∷ 255 ∷ 254 ∷ 255 ∷ 0 ∷ 224 ∷ 2 ∷ 0 ∷ 0 ∷ 0 ∷ 221 ∷ 224
    ∷ 254 ∷ 255 ∷ 0 ∷ 224 ∷ 2 ∷ 0 ∷ 0 ∷ 0 ∷ 255 ∷ 217 ∷ 254 ∷ 255 ∷ 221 ∷ 224 ∷ 0 ∷ 0 ∷ 0 ∷ 0 ∷ []

-- two frames of three fragments, with their offsets in the Basic Offset Table
abbrev pub two_frames : List ℕ
two_frames =
    224 ∷ 127 ∷ 16 ∷ 0 ∷ 79 ∷ 66 ∷ 0 ∷ 0 ∷ 255 ∷ 255 ∷ 255 ∷ 255 ∷ 254 ∷ 255 ∷ 0 ∷ 224 ∷ 8 ∷ 0 ∷ 0 ∷ 0 ∷ 0 ∷ 0 ∷ 0 ∷ 0 ∷ 22 ∷ 0 ∷ 0 ∷ 0
    ∷ 254 ∷ 255 ∷ 0 ∷ 224 ∷ 4 ∷ 0 ∷ 0 ∷ 0 ∷ 255 ∷ 216 ∷ 1 ∷ 2 ∷ 254 ∷ 255 ∷ 0 ∷ 224 ∷ 2 ∷ 0 ∷ 0 ∷ 0 ∷ 255 ∷ 217
    ∷ 254 ∷ 255 ∷ 0 ∷ 224 ∷ 4 ∷ 0 ∷ 0 ∷ 0 ∷ 255 ∷ 216 ∷ 255 ∷ 217 ∷ 254 ∷ 255 ∷ 221 ∷ 224 ∷ 0 ∷ 0 ∷ 0 ∷ 0 ∷ []

-- encapsulated Pixel Data in an item of Icon Image Sequence
abbrev pub icon : List ℕ
icon =
    136 ∷ 0 ∷ 0 ∷ 2 ∷ 83 ∷ 81 ∷ 0 ∷ 0 ∷ 255 ∷ 255 ∷ 255 ∷ 255 ∷ 254 ∷ 255 ∷ 0 ∷ 224 ∷ 38 ∷ 0 ∷ 0 ∷ 0
    ∷ 224 ∷ 127 ∷ 16 ∷ 0 ∷ 79 ∷ 87 ∷ 0 ∷ 0 ∷ 255 ∷ 255 ∷ 255 ∷ 255 ∷ 254 ∷ 255 ∷ 0 ∷ 224 ∷ 0 ∷ 0 ∷ 0 ∷ 0
    ∷ 254 ∷ 255 ∷ 0 ∷ 224 ∷ 2 ∷ 0 ∷ 0 ∷ 0 ∷ 1 ∷ 2 ∷ 254 ∷ 255 ∷ 221 ∷ 224 ∷ 0 ∷ 0 ∷ 0 ∷ 0 ∷ 254 ∷ 255 ∷ 221 ∷ 224 ∷ 0 ∷ 0 ∷ 0 ∷ 0 ∷ []

-- encapsulated Pixel Data opens one level; in Explicit it is not allowed
abbrev pub OneFrame : Type 0
OneFrame =
    (wanted : List Want)
    → Reports Encapsulated (wanting wanted 1) one_frame (going_on 0 60 0)
    × Reports Encapsulated (wanting wanted 1) (take 30 one_frame) (going_on 1 30 16)
    × Reports Encapsulated (wanting wanted 1) (take 55 one_frame) (going_on 1 55 19)
    × Reports Encapsulated (wanting wanted 0) one_frame (faulty 18 0 (record { 0 = 0x7fe0; 1 = 0x0010 }) 0 12 0)
    × Reports Explicit (wanting wanted 1) one_frame (faulty 14 0 (record { 0 = 0x7fe0; 1 = 0x0010 }) 0 12 0)

abbrev pub TwoFrames : Type 0
TwoFrames = (wanted : List Want) → Reports Encapsulated (wanting wanted 1) two_frames (going_on 0 70 0)

-- encapsulated Pixel Data in an item opens the third level, and ends with that item
abbrev pub AnIcon : Type 0
AnIcon =
    (wanted : List Want)
    → Reports Encapsulated (wanting wanted 3) icon (going_on 0 66 0)
    × Reports Encapsulated (wanting wanted 3) (take 49 icon) (going_on 3 49 48)
    × Reports Encapsulated (wanting wanted 3) (take 58 icon) (going_on 1 58 16)

-- headers after that of encapsulated Pixel Data that break a rule: an item of undefined length, one of odd length,
-- another tag, a delimitation whose length is not 0
abbrev pub NoFragment : Type 0
NoFragment =
    (wanted : List Want)
    → Reports Encapsulated (wanting wanted 64) (pixel_data_header ++ (254 ∷ 255 ∷ 0 ∷ 224 ∷ 255 ∷ 255 ∷ 255 ∷ 255 ∷ [])) (faulty 14 12 (record { 0 = 0xfffe; 1 = 0xe000 }) 1 20 16)
    × Reports Encapsulated (wanting wanted 64) (pixel_data_header ++ (254 ∷ 255 ∷ 0 ∷ 224 ∷ 3 ∷ 0 ∷ 0 ∷ 0 ∷ [])) (faulty 11 12 (record { 0 = 0xfffe; 1 = 0xe000 }) 1 20 16)
    × Reports Encapsulated (wanting wanted 64) (pixel_data_header ++ (254 ∷ 255 ∷ 13 ∷ 224 ∷ [])) (faulty 15 12 (record { 0 = 0xfffe; 1 = 0xe00d }) 1 16 16)
    × Reports Encapsulated (wanting wanted 64) (pixel_data_header ++ (8 ∷ 0 ∷ 96 ∷ 0 ∷ [])) (faulty 15 12 (record { 0 = 0x0008; 1 = 0x0060 }) 1 16 16)
    × Reports Encapsulated (wanting wanted 64) (pixel_data_header ++ (254 ∷ 255 ∷ 221 ∷ 224 ∷ 2 ∷ 0 ∷ 0 ∷ 0 ∷ [])) (faulty 16 12 (record { 0 = 0xfffe; 1 = 0xe0dd }) 1 20 16)

-- the steps of one frame: for each fragment its header and its bytes, then the delimitation
abbrev pub AlongOneFrame : Type 0
AlongOneFrame =
    Steps Encapsulated 64 one_frame 0 12 (Element (record { tag = record { 0 = 0x7fe0; 1 = 0x0010 }; vr = Some (codes "OB"); length = 0xffffffff }))
    × Steps Encapsulated 64 one_frame 12 8 (Opened (plain_header 0xfffe 0xe000 0))
    × Steps Encapsulated 64 one_frame 20 8 (Opened (plain_header 0xfffe 0xe000 4))
    × StepsRun Encapsulated 64 one_frame 28 4
    × Steps Encapsulated 64 one_frame 32 8 (Opened (plain_header 0xfffe 0xe000 2))
    × StepsRun Encapsulated 64 one_frame 40 2
    × Steps Encapsulated 64 one_frame 42 8 (Opened (plain_header 0xfffe 0xe000 2))
    × StepsRun Encapsulated 64 one_frame 50 2
    × Steps Encapsulated 64 one_frame 52 8 (Closed (plain_header 0xfffe 0xe0dd 0))
