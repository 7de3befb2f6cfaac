-- The form of a file without preamble and file meta information: a data set alone (PS3.5 section 7.1). Its first element
-- determines the form; the rules are this product's own profile.
use Rattle.std.specs.Prelude.{ℕ, ◌+◌, ◌%◌, Bool, ◌&&◌, List, length, drop, take, Option, Some, None, nat_eq, nat_le, codes, if◌then◌else◌}
use Rattle.std.specs.Str.{bytes_eq}
use Rattle.element.specs.declared.header.Header.{Header}
use Rattle.element.specs.declared.syntax.Syntax.{Syntax}
use Rattle.element.specs.declared.syntax.Syntax.TheVariants.{Implicit, Explicit}
use Rattle.element.specs.Header.{is_whole, header_at}

-- whether the bytes have the letters of a file's header after a preamble (PS3.10 section 7.1)
abbrev pub has_letters : List ℕ → Bool
has_letters b = nat_le 132 (length b) && bytes_eq (take 4 (drop 128 b)) (codes "DICM")

-- whether a data set may begin with an element of this group: an even one from 0004 to 0010
-- e.g. may_begin 8 ≡ true; may_begin 4 ≡ true; may_begin 2 ≡ false; may_begin 9 ≡ false; may_begin 18 ≡ false
abbrev pub may_begin : ℕ → Bool
may_begin group = nat_eq (group % 2) 0 && (nat_le 4 group && nat_le group 16)

-- whether so many bytes hold an element that a data set may begin with, of a header of eight bytes
abbrev pub fits : Header → ℕ → Bool
fits h size = may_begin h.tag.0 && nat_le (8 + h.length) size

-- the form of a file that begins with these bytes: the first 4096, or all of a shorter file. Explicit VR if the first
-- header has a VR, else Implicit VR if the first value ends within the bytes
-- e.g. form_of (8 ∷ 0 ∷ 22 ∷ 0 ∷ 85 ∷ 73 ∷ 26 ∷ 0 ∷ []) ≡ Some Explicit
-- e.g. form_of (8 ∷ 0 ∷ 22 ∷ 0 ∷ 2 ∷ 0 ∷ 0 ∷ 0 ∷ 49 ∷ 50 ∷ []) ≡ Some Implicit
-- e.g. form_of (8 ∷ 0 ∷ 22 ∷ 0 ∷ 2 ∷ 0 ∷ 0 ∷ 0 ∷ 49 ∷ []) ≡ None
-- e.g. form_of (codes "PatientID,PatientName") ≡ None
abbrev pub form_of : List ℕ → Option Syntax
form_of b =
    if has_letters b then None
    else (if is_whole Explicit b && may_begin (header_at Explicit b).tag.0 then Some Explicit
    else (if is_whole Implicit b && fits (header_at Implicit b) (length b) then Some Implicit
    else None))
