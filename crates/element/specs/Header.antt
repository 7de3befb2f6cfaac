-- The header of an element, an item or a delimitation, and its encodings (PS3.5 sections 7.1 and 7.5).
use Rattle.std.specs.Prelude.{◌≡◌, ℕ, ◌+◌, ◌*◌, ◌^◌, ◌<◌, Bool, true, false, not, ◌&&◌, ◌||◌, List, [], ◌∷◌, ◌++◌, length, get_or, Option, Some, None, nat_eq, nat_le, nat_lt, if◌then◌else◌}
use Rattle.element.specs.declared.syntax.Syntax.{Syntax}
use Rattle.element.specs.declared.syntax.Syntax.TheVariants.{Implicit, Explicit}
use Rattle.element.specs.declared.tag.Tag.{Tag}
use Rattle.element.specs.declared.header.Header.{Header}
use Rattle.element.specs.declared.size.Need.{Need}
use Rattle.element.specs.declared.size.Need.TheVariants.{More, Size, BadVr}
use Rattle.element.specs.Numbers.{le}
use Rattle.element.specs.Vr.{is_capital, is_short, is_short_vr}

-- the tag as one number, by which tags are ordered: the group in its upper 16 bits
-- e.g. number item_tag ≡ 0xfffee000
abbrev pub number : Tag → ℕ
number t = t.0 * 65536 + t.1

-- a tag of an item or a delimitation
-- e.g. is_marker item_tag ≡ true
abbrev pub is_marker : Tag → Bool
is_marker t = nat_eq t.0 0xfffe

-- the tag of an Item (PS3.5 section 7.5)
abbrev pub item_tag : Tag
item_tag = record { 0 = 0xfffe; 1 = 0xe000 }

-- the tag of an Item Delimitation (PS3.5 7.5)
abbrev pub item_end_tag : Tag
item_end_tag = record { 0 = 0xfffe; 1 = 0xe00d }

-- the tag of a Sequence Delimitation (PS3.5 7.5)
abbrev pub sequence_end_tag : Tag
sequence_end_tag = record { 0 = 0xfffe; 1 = 0xe0dd }

-- whether a header with this tag has no VR
-- e.g. is_plain Explicit item_tag ≡ true
abbrev pub is_plain : Syntax → Tag → Bool
is_plain Implicit t = true
is_plain Explicit t = is_marker t

-- the four bytes of a tag, group first, each number with its least byte first (PS3.5 7.1.1)
-- e.g. tag_bytes item_tag ≡ 254 ∷ 255 ∷ 0 ∷ 224 ∷ []
abbrev pub tag_bytes : Tag → List ℕ
tag_bytes t = le t.0 2 ++ le t.1 2

-- group and element number are numbers of two bytes
abbrev pub IsTag : Tag → Type 0
IsTag t = (t.0 < 2 ^ 16) × (t.1 < 2 ^ 16)

-- the bytes b are an encoding of the header h
pub data SpellsHeader : Syntax → Header → List ℕ → Type 0 where
  -- tag and length
  plain : {s : Syntax} (tag : Tag) (length : ℕ) → IsTag tag → is_plain s tag ≡ true → length < 2 ^ 32
      → SpellsHeader s (record { tag = tag; vr = None; length = length }) (tag_bytes tag ++ le length 4)
  -- tag, a short VR, and a length of two bytes
  short : (tag : Tag) (a b length : ℕ) → IsTag tag → is_marker tag ≡ false → (is_capital a && is_capital b) ≡ true → is_short a b ≡ true → length < 2 ^ 16
      → SpellsHeader Explicit (record { tag = tag; vr = Some (a ∷ b ∷ []); length = length }) (tag_bytes tag ++ (a ∷ b ∷ le length 2))
  -- tag, any other VR, two reserved bytes, which are not tested, and a length of four bytes
  long : (tag : Tag) (a b r q length : ℕ) → IsTag tag → is_marker tag ≡ false → (is_capital a && is_capital b) ≡ true → is_short a b ≡ false → length < 2 ^ 32
      → SpellsHeader Explicit (record { tag = tag; vr = Some (a ∷ b ∷ []); length = length }) (tag_bytes tag ++ (a ∷ b ∷ r ∷ q ∷ le length 4))

-- ---- reading, from the front of b

-- the number in the two bytes from this index on, least byte first
-- e.g. number_at (9 ∷ 2 ∷ 1 ∷ []) 1 ≡ 258
abbrev pub number_at : List ℕ → ℕ → ℕ
number_at b i = get_or b i 0 + 256 * get_or b (i + 1) 0

-- the number in the four bytes from this index on, least byte first
-- e.g. long_number_at (1 ∷ 0 ∷ 1 ∷ 0 ∷ []) 0 ≡ 65537
abbrev pub long_number_at : List ℕ → ℕ → ℕ
long_number_at b i = number_at b i + 65536 * number_at b (i + 2)

-- the tag in the first four bytes
-- e.g. tag_at (254 ∷ 255 ∷ 0 ∷ 224 ∷ []) ≡ item_tag
abbrev pub tag_at : List ℕ → Tag
tag_at b = record { 0 = number_at b 0; 1 = number_at b 2 }

-- the size of the header that begins with these bytes, as far as they determine it
-- e.g. need Implicit (8 ∷ 0 ∷ 22 ∷ 0 ∷ []) ≡ Size 8; need Explicit (8 ∷ 0 ∷ 22 ∷ 0 ∷ 85 ∷ []) ≡ More
-- e.g. need Explicit (8 ∷ 0 ∷ 22 ∷ 0 ∷ 79 ∷ 66 ∷ []) ≡ Size 12; need Explicit (8 ∷ 0 ∷ 22 ∷ 0 ∷ 117 ∷ 105 ∷ []) ≡ BadVr
unfoldable pub need : Syntax → List ℕ → Need
need s b =
    if nat_lt (length b) 4 then More
    else (if is_plain s (tag_at b) then Size 8
    else (if nat_lt (length b) 6 then More
    else (if not (is_capital (get_or b 4 0) && is_capital (get_or b 5 0)) then BadVr
    else (if is_short (get_or b 4 0) (get_or b 5 0) then Size 8
    else Size 12))))

-- whether so many bytes contain the whole header
-- e.g. has_size (Size 8) 8 ≡ true; has_size (Size 12) 8 ≡ false
abbrev pub has_size : Need → ℕ → Bool
has_size More n = false
has_size BadVr n = false
has_size (Size k) n = nat_le k n

-- whether b contains all bytes of the header at its front
-- e.g. is_whole Implicit (8 ∷ 0 ∷ 22 ∷ 0 ∷ 4 ∷ 0 ∷ 0 ∷ 0 ∷ []) ≡ true
-- e.g. is_whole Implicit (8 ∷ 0 ∷ 22 ∷ 0 ∷ 4 ∷ 0 ∷ 0 ∷ []) ≡ false
unfoldable pub is_whole : Syntax → List ℕ → Bool
is_whole s b = has_size (need s b) (length b)

-- the header at the front of b
-- e.g. header_at Implicit (8 ∷ 0 ∷ 22 ∷ 0 ∷ 4 ∷ 0 ∷ 0 ∷ 0 ∷ []) ≡ record { tag = record { 0 = 8; 1 = 22 }; vr = None;
-- length = 4 }
unfoldable pub header_at : Syntax → List ℕ → Header
header_at s b =
    if is_plain s (tag_at b) then record { tag = tag_at b; vr = None; length = long_number_at b 4 }
    else (if is_short (get_or b 4 0) (get_or b 5 0)
    then record { tag = tag_at b; vr = Some (get_or b 4 0 ∷ get_or b 5 0 ∷ []); length = number_at b 6 }
    else record { tag = tag_at b; vr = Some (get_or b 4 0 ∷ get_or b 5 0 ∷ []); length = long_number_at b 8 })

-- a header that can be written: the VR is there exactly in Explicit outside group FFFE, and a short VR has a
-- length up to 65535
abbrev pub fits_vr : Bool → Option (List ℕ) → ℕ → Bool
fits_vr true None n = true
fits_vr true (Some vr) n = false
fits_vr false None n = false
fits_vr false (Some vr) n = not (is_short_vr vr) || nat_lt n 65536

abbrev pub header_fits : Syntax → Header → Bool
header_fits s h = fits_vr (is_plain s h.tag) h.vr h.length

-- the encoding of a header that is written, with reserved bytes of zero
-- e.g. vr_bytes (Some (codes "UI")) 4 ≡ codes "UI" ++ 4 ∷ 0 ∷ []
abbrev pub vr_bytes : Option (List ℕ) → ℕ → List ℕ
vr_bytes None n = le n 4
vr_bytes (Some vr) n = if is_short_vr vr then vr ++ le n 2 else (vr ++ (0 ∷ 0 ∷ le n 4))

-- the bytes of a header: tag, VR and length
-- e.g. header_bytes (record { tag = item_tag; vr = None; length = 0 }) ≡ 254 ∷ 255 ∷ 0 ∷ 224 ∷ 0 ∷ 0 ∷ 0 ∷ 0 ∷ []
abbrev pub header_bytes : Header → List ℕ
header_bytes h = tag_bytes h.tag ++ vr_bytes h.vr h.length
