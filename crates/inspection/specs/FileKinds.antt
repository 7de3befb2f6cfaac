-- What a file seems to be by its first bytes: 4096, or all of a shorter file. This product's own profile.
use Rattle.std.specs.Prelude.{ℕ, Bool, true, false, ◌&&◌, ◌||◌, List, length, codes, is_some, nat_le, if◌then◌else◌}
use Rattle.std.specs.List.{list_all}
use Rattle.element.specs.Padding.{is_empty}
use Rattle.inspection.specs.BareForm.{form_of, has_letters}
use Rattle.inspection.specs.declared.file_kind.FileKind.{FileKind}
use Rattle.inspection.specs.declared.file_kind.FileKind.TheVariants.{Dicom, Empty, Unclear, Other}

-- whether text has this byte: no control character but those that space it
-- e.g. is_text_byte 0 ≡ false; is_text_byte 10 ≡ true; is_text_byte 65 ≡ true
abbrev pub is_text_byte : ℕ → Bool
is_text_byte c = nat_le 32 c || (nat_le 9 c && nat_le c 13)

-- the kind of bytes without the letters DICM: a file that ends within its preamble, and one without a header, are damaged
-- perhaps; text, and what is long enough for a preamble, is surely no DICOM file
abbrev pub kind_without_letters : List ℕ → FileKind
kind_without_letters b =
    if is_empty b then Empty
    else (if is_some (form_of b) then Unclear
    else (if nat_le 132 (length b) || list_all is_text_byte b then Other
    else Unclear))

abbrev pub kind_of : List ℕ → FileKind
kind_of b = if has_letters b then Dicom else kind_without_letters b

-- whether files of this kind are passed over if other files are ignored: they have bytes, and no letters DICM
-- e.g. is_other Empty ≡ false; is_other Unclear ≡ true
abbrev pub is_other : FileKind → Bool
is_other Dicom = false
is_other Empty = false
is_other Unclear = true
is_other Other = true
