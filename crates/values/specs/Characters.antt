-- Which bytes of a text are one character (PS3.3 section C.12.1.1.2, PS3.5 section 6.1.2). To be checked, a text is
-- replaced by one with one byte for each character: a character of ASCII by itself, any other by a byte from 80H on.
use Rattle.std.specs.Prelude.{ℕ, Bool, true, false, ◌&&◌, ◌||◌, List, [], ◌∷◌, length, take, Option, Some, None, nat_eq, nat_le, codes, if◌then◌else◌}
use Rattle.std.specs.List.{list_any}
use Rattle.std.specs.Cmp.Lexicographic.{pointwise}
use Rattle.element.specs.Padding.{is_space, without_trailing}
use Rattle.element.specs.Values.{is_backslash, is_digit}
use Rattle.values.specs.declared.character_set.CharacterSet.{CharacterSet}
use Rattle.values.specs.declared.character_set.CharacterSet.TheVariants as sets
use Rattle.values.specs.declared.reading.GbPosition.{GbPosition}
use Rattle.values.specs.declared.reading.GbPosition.TheVariants as gb
use Rattle.values.specs.declared.reading.ExtendedPosition.{ExtendedPosition}
use Rattle.values.specs.declared.reading.ExtendedPosition.TheVariants as extended
use Rattle.values.specs.declared.reading.WideSets.{WideSets}
use Rattle.values.specs.declared.reading.Reading.{Reading}
use Rattle.values.specs.declared.reading.Reading.TheVariants as readings

-- a value begins with `ISO 2022`, as the defined terms of code extensions do
abbrev pub names_extension : List ℕ → Bool
names_extension value = nat_le 8 (length value) && pointwise nat_eq (take 8 value) (codes "ISO 2022")

abbrev pub set_of_term : List ℕ → CharacterSet
set_of_term term =
    if pointwise nat_eq term (codes "ISO_IR 192") then sets.Utf8
    else (if pointwise nat_eq term (codes "GB18030") || pointwise nat_eq term (codes "GBK") then sets.Gb18030
    else sets.SingleByte)

-- the encoding for a value of Specific Character Set; several values mean code extensions
abbrev pub set_of : List ℕ → CharacterSet
set_of value = if list_any is_backslash value || names_extension value then sets.CodeExtensions else set_of_term (without_trailing is_space value)

-- the position after a byte of GB 18030 or GBK: a character that begins with a byte from 81H on has four bytes if the
-- second is a digit, else two
abbrev pub gb_position : GbPosition → ℕ → GbPosition
gb_position gb.First byte = if nat_le 129 byte then gb.Second else gb.First
gb_position gb.Second byte = if is_digit byte then gb.Third else gb.First
gb_position gb.Third byte = gb.Fourth
gb_position gb.Fourth byte = gb.First

abbrev pub gb_character : GbPosition → ℕ → Option ℕ
gb_character gb.First byte = Some (if nat_le 129 byte then 128 else byte)
gb_character _ byte = None

-- a byte is the first of a character of two bytes, with these sets selected; an escape sequence, which is ESC, bytes
-- from 20H to 2FH and one more, selects a set with one byte for each character, or, with $, with two
abbrev pub begins_pair : WideSets → ℕ → Bool
begins_pair sets byte = sets.low && nat_le 33 byte && nat_le byte 126 || sets.high && nat_le 161 byte

abbrev pub is_intermediate : ℕ → Bool
is_intermediate byte = nat_le 32 byte && nat_le byte 47

-- a byte of an escape sequence means that it selects the set of the bytes from 80H on (G1): ) or -
abbrev pub names_high : ℕ → Bool
names_high byte = nat_eq byte 41 || nat_eq byte 45

abbrev pub after_escape : Bool → ℕ → ExtendedPosition
after_escape is_wide byte =
    if names_high byte then extended.High is_wide else (if is_intermediate byte then extended.Low is_wide else extended.First)

abbrev pub first_position : WideSets → ℕ → ExtendedPosition
first_position sets byte =
    if nat_eq byte 27 then extended.Escape else (if begins_pair sets byte then extended.Last else extended.First)

abbrev pub extended_position : WideSets → ExtendedPosition → ℕ → ExtendedPosition
extended_position sets extended.First byte = first_position sets byte
extended_position sets extended.Last byte = extended.First
extended_position sets extended.Escape byte = if nat_eq byte 36 then extended.WideEscape else after_escape false byte
extended_position sets extended.WideEscape byte = after_escape true byte
extended_position sets (extended.Low is_wide) byte = if is_intermediate byte then extended.Low is_wide else extended.First
extended_position sets (extended.High is_wide) byte = if is_intermediate byte then extended.High is_wide else extended.First

-- the selected sets after the last byte of an escape sequence
abbrev pub named_sets : WideSets → ExtendedPosition → WideSets
named_sets sets (extended.Low is_wide) = record { low = is_wide; high = sets.high }
named_sets sets (extended.High is_wide) = record { low = sets.low; high = is_wide }
named_sets sets extended.WideEscape = record { low = true; high = sets.high }
named_sets sets _ = sets

abbrev pub extended_sets : WideSets → ExtendedPosition → ℕ → WideSets
extended_sets sets position byte = if is_intermediate byte then sets else named_sets sets position

abbrev pub extended_character : WideSets → ExtendedPosition → ℕ → Option ℕ
extended_character sets extended.First byte =
    if nat_eq byte 27 then None else (if begins_pair sets byte then Some 128 else Some byte)
extended_character sets _ byte = None

-- the state of reading before the first byte of a text in this character set
abbrev pub reading_of : CharacterSet → Reading
reading_of sets.SingleByte = readings.SingleByte
reading_of sets.Utf8 = readings.Utf8
reading_of sets.Gb18030 = readings.Gb18030 gb.First
reading_of sets.CodeExtensions = readings.CodeExtensions (record { low = false; high = false }) extended.First

abbrev pub after : Reading → ℕ → Reading
after readings.SingleByte byte = readings.SingleByte
after readings.Utf8 byte = readings.Utf8
after (readings.Gb18030 position) byte = readings.Gb18030 (gb_position position byte)
after (readings.CodeExtensions sets position) byte = readings.CodeExtensions (extended_sets sets position byte) (extended_position sets position byte)

-- the byte that replaces the character that begins with this byte; none if no character begins here
abbrev pub character : Reading → ℕ → Option ℕ
character readings.SingleByte byte = Some byte
character readings.Utf8 byte = if nat_le 128 byte && nat_le byte 191 then None else Some byte
character (readings.Gb18030 position) byte = gb_character position byte
character (readings.CodeExtensions sets position) byte = extended_character sets position byte

abbrev pub after_all : Reading → List ℕ → Reading
after_all reading [] = reading
after_all reading (byte ∷ bytes) = after_all (after reading byte) bytes

abbrev pub with_character : Option ℕ → List ℕ → List ℕ
with_character None text = text
with_character (Some c) text = c ∷ text

-- the text with one byte for each character
abbrev pub shown : Reading → List ℕ → List ℕ
shown reading [] = []
shown reading (byte ∷ bytes) = with_character (character reading byte) (shown (after reading byte) bytes)
