-- The VRs of elements whose headers have none, where PS3.6 leaves a choice or has none, and the lengths of items.
use Rattle.std.specs.Prelude.{ℕ, ◌-◌, ◌%◌, Bool, not, ◌&&◌, List, Option, Some, None, codes, nat_eq, nat_le, nat_lt, if◌then◌else◌}
use Rattle.element.specs.declared.tag.Tag.{Tag}

-- the VR of a number that PS3.6 has as US or SS, by the sign that Pixel Representation determines
abbrev pub number_vr : Bool → List ℕ
number_vr is_signed = if is_signed then codes "SS" else codes "US"

-- the VR of a group length (PS3.5 section 7.2) or a private creator (PS3.5 section 7.8.1)
abbrev pub vr_by_rule : Tag → Option (List ℕ)
vr_by_rule tag =
    if nat_eq tag.1 0 then Some (codes "UL")
    else (if nat_eq (tag.0 % 2) 1 && (nat_le 16 tag.1 && nat_le tag.1 255) then Some (codes "LO")
    else None)

-- whether an element or item at this offset, of this length unless it is undefined, passes the end of its level
abbrev pub passes : ℕ → ℕ → ℕ → Bool
passes offset length end = not (nat_eq length 0xffff_ffff) && nat_lt (end - offset) length
