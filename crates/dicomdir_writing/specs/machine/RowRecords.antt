-- A record that is written: the values of its elements, and the greatest size of these.
use Rattle.std.specs.Prelude.{ℕ, ◌+◌, Bool, not, ◌&&◌, List, [], ◌∷◌, Option, nat_le, if◌then◌else◌}
use Rattle.element.specs.Header.{number, is_marker}
use Rattle.element.specs.Vr.{is_short_vr}
use Rattle.sequence.specs.Wanted.{Values}
use Rattle.dicomdir_writing.specs.declared.record_table.RecordRule.{RecordRule}
use Rattle.dicomdir.specs.declared.level.Level.{Level}
use Rattle.dicomdir_writing.specs.declared.row_record.RowRecord.{RowRecord}
use Rattle.dicomdir_writing.specs.RecordTable.{has_level}
use Rattle.dicomdir_writing.specs.Keys.{optional_size}
use Rattle.dicomdir_writing.specs.Record.{own_values, says}
use Rattle.dicomdir_writing.specs.Row.{Row}

-- the values of the record of a row that are not keys, with the bytes of its two offsets
abbrev pub values_with_offsets : List ℕ → List ℕ → Level → Row → Values
values_with_offsets next lower level row = (0x00041400, next) ∷ (0x00041420, lower) ∷ own_values level row

-- the values of a record that are not keys, and its value with each tag
abbrev pub own_values_of : {A : Type 0} → RowRecord A → Values
own_values_of r = values_with_offsets r.next r.lower r.level r.row.now

abbrev pub says_of : {A : Type 0} → RowRecord A → ℕ → Option (List ℕ)
says_of r = says (own_values_of r) r.row.now.values

-- the greatest size of an element by a rule, and of all elements of a record, in bytes
abbrev pub rule_room : Level → RecordRule → ℕ
rule_room level rule = if has_level rule.levels level then rule.room + 9 else 0

abbrev pub rules_room : Level → List RecordRule → ℕ
rules_room level [] = 0
rules_room level (rule ∷ rules) = rule_room level rule + rules_room level rules

-- the element of the rule has a header of eight bytes: it is no item or delimitation, and its VR has a length field
-- of two bytes
abbrev pub has_short_header : RecordRule → Bool
has_short_header rule = not (is_marker rule.tag) && is_short_vr rule.vr

-- the value with the tag of the rule is no longer than the rule allows
abbrev pub fits_rule : (ℕ → Option (List ℕ)) → RecordRule → Bool
fits_rule values rule = nat_le (optional_size (values (number rule.tag))) rule.room
