-- What follows the header of an element: a value, or the items of a sequence (PS3.5 sections 6.2.2, 7.5 and A.4).
-- What follows in Implicit, for a tag that is not in the dictionary, is this product's own profile.
use Rattle.std.specs.Prelude.{ℕ, Bool, ◌&&◌, ◌||◌, Option, Some, None, List, get_or, nat_eq, if◌then◌else◌, codes}
use Rattle.sequence.specs.declared.coding.Coding.{Coding}
use Rattle.sequence.specs.declared.coding.Coding.TheVariants.{Implicit, Explicit, Encapsulated, Fragments}
use Rattle.element.specs.declared.tag.Tag.{Tag}
use Rattle.element.specs.declared.header.Header.{Header}
use Rattle.dictionary.specs.Tags.{vr_of}
use Rattle.sequence.specs.declared.shape.Shape.{Shape}
use Rattle.sequence.specs.declared.shape.Shape.TheVariants.{Value, Sequence, NotAllowed}

-- FFFFFFFFH, undefined length
abbrev pub undefined_length : ℕ
undefined_length = 0xffffffff

-- whether the length is the undefined length, FFFFFFFFH
-- e.g. is_undefined 0xffffffff ≡ true; is_undefined 8 ≡ false
abbrev pub is_undefined : ℕ → Bool
is_undefined n = nat_eq n undefined_length

-- whether the VR has these two letters
-- e.g. is_vr (codes "SQ") (codes "SQ") ≡ true
abbrev pub is_vr : List ℕ → List ℕ → Bool
is_vr letters vr = nat_eq (get_or vr 0 0) (get_or letters 0 0) && nat_eq (get_or vr 1 0) (get_or letters 1 0)

-- what follows a header in Explicit, by its VR and whether its length is undefined
-- e.g. explicit_shape (codes "SQ") false ≡ Sequence Explicit; explicit_shape (codes "UN") true ≡ Sequence Implicit
-- e.g. explicit_shape (codes "OW") true ≡ NotAllowed
abbrev pub explicit_shape : List ℕ → Bool → Shape
explicit_shape vr undefined =
    if is_vr (codes "SQ") vr then Sequence Explicit
    else (if undefined then (if is_vr (codes "UN") vr then Sequence Implicit else NotAllowed)
    else Value)

-- the tag of Pixel Data
abbrev pub is_pixel_data : Tag → Bool
is_pixel_data t = nat_eq t.0 0x7fe0 && nat_eq t.1 0x0010

-- what follows a header where Pixel Data may be encapsulated: fragments, if it is Pixel Data of undefined length with
-- VR OB, or with OW, which some senders write (this product's own profile); all else is as in Explicit
abbrev pub encapsulated_shape : Tag → List ℕ → Bool → Shape
encapsulated_shape t vr undefined =
    if is_vr (codes "SQ") vr then Sequence Encapsulated
    else (if undefined && (is_pixel_data t && (is_vr (codes "OB") vr || is_vr (codes "OW") vr)) then Sequence Fragments
    else explicit_shape vr undefined)

-- what follows a header in Implicit, by the VR of its tag in the dictionary
-- e.g. implicit_shape None true ≡ Sequence Implicit; implicit_shape (Some (codes "UI")) true ≡ NotAllowed
-- e.g. implicit_shape None false ≡ Value
abbrev pub implicit_shape : Option (List ℕ) → Bool → Shape
implicit_shape None undefined = if undefined then Sequence Implicit else Value
implicit_shape (Some vr) undefined =
    if is_vr (codes "SQ") vr then Sequence Implicit
    else (if undefined then NotAllowed
    else Value)

-- what follows a header, by the encoding, the header's tag and VR, the dictionary's VR, and whether the length is
-- undefined
-- e.g. shape_by Explicit (record { 0 = 0x0008; 1 = 0x0018 }) (Some (codes "UI")) None false ≡ Value
abbrev pub shape_by : Coding → Tag → Option (List ℕ) → Option (List ℕ) → Bool → Shape
shape_by Explicit t (Some vr) known undefined = explicit_shape vr undefined
shape_by Explicit t None known undefined = NotAllowed
shape_by Encapsulated t (Some vr) known undefined = encapsulated_shape t vr undefined
shape_by Encapsulated t None known undefined = NotAllowed
shape_by Fragments t vr known undefined = NotAllowed
shape_by Implicit t vr known undefined = implicit_shape known undefined

-- what follows this header of an element, in this encoding (law `sequence::unknown_content`)
abbrev pub shape : Coding → Header → Shape
shape s h = shape_by s h.tag h.vr (vr_of h.tag) (is_undefined h.length)
