-- Which characters the bytes of texts are, as Specific Character Set (0008,0005) names them (PS3.3 section C.12.1.1.2).
use Rattle.std.specs.Prelude.{ℕ, ◌-◌, List, [], Option, Some, None, get_or, nat_eq, nat_lt, codes, if◌then◌else◌, ◌||◌}
use Rattle.std.specs.Cmp.Lexicographic.{pointwise}
use Rattle.element.specs.Padding.{is_empty, is_space, without_trailing}
use Rattle.values.specs.Letters.{latin1, latin2, latin3, latin4, cyrillic, arabic, greek, hebrew, latin5, thai, latin9}
use Rattle.values.specs.declared.repertoire.Part.{Part}
use Rattle.values.specs.declared.repertoire.Part.TheVariants as parts
use Rattle.values.specs.declared.repertoire.Repertoire.{Repertoire}
use Rattle.values.specs.declared.repertoire.Repertoire.TheVariants as repertoires

-- the part of ISO 8859 that a defined term names
abbrev pub part_of_term : List ℕ → Option Part
part_of_term term =
    if pointwise nat_eq term (codes "ISO_IR 100") then Some parts.Latin1
    else (if pointwise nat_eq term (codes "ISO_IR 101") then Some parts.Latin2
    else (if pointwise nat_eq term (codes "ISO_IR 109") then Some parts.Latin3
    else (if pointwise nat_eq term (codes "ISO_IR 110") then Some parts.Latin4
    else (if pointwise nat_eq term (codes "ISO_IR 144") then Some parts.Cyrillic
    else (if pointwise nat_eq term (codes "ISO_IR 127") then Some parts.Arabic
    else (if pointwise nat_eq term (codes "ISO_IR 126") then Some parts.Greek
    else (if pointwise nat_eq term (codes "ISO_IR 138") then Some parts.Hebrew
    else (if pointwise nat_eq term (codes "ISO_IR 148") then Some parts.Latin5
    else (if pointwise nat_eq term (codes "ISO_IR 166") then Some parts.Thai
    else (if pointwise nat_eq term (codes "ISO_IR 203") then Some parts.Latin9
    else None))))))))))

abbrev pub of_part : Option Part → Repertoire
of_part None = repertoires.Other
of_part (Some part) = repertoires.Iso8859 part

abbrev pub of_term : List ℕ → Repertoire
of_term term =
    if is_empty term || pointwise nat_eq term (codes "ISO_IR 6") then repertoires.Ascii
    else (if pointwise nat_eq term (codes "ISO_IR 192") then repertoires.Utf8
    else of_part (part_of_term term))

-- the repertoire that a value of Specific Character Set names
abbrev pub of_value : List ℕ → Repertoire
of_value value = of_term (without_trailing is_space value)

-- the characters of the bytes from A0H on
abbrev pub letters_of : Part → List ℕ
letters_of parts.Latin1 = latin1
letters_of parts.Latin2 = latin2
letters_of parts.Latin3 = latin3
letters_of parts.Latin4 = latin4
letters_of parts.Cyrillic = cyrillic
letters_of parts.Arabic = arabic
letters_of parts.Greek = greek
letters_of parts.Hebrew = hebrew
letters_of parts.Latin5 = latin5
letters_of parts.Thai = thai
letters_of parts.Latin9 = latin9

abbrev pub known : ℕ → Option ℕ
known code = if nat_eq code 0 then None else Some code

-- the character of a byte from A0H on
abbrev pub letter_of : Part → ℕ → Option ℕ
letter_of part byte = if nat_lt byte 160 then None else known (get_or (letters_of part) (byte - 160) 0)

-- the character that a byte from 80H on is by itself
abbrev pub letter : Repertoire → ℕ → Option ℕ
letter (repertoires.Iso8859 part) byte = letter_of part byte
letter _ byte = None
