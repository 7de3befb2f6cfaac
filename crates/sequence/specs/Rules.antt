-- The rules that a header, or its first bytes, may break (PS3.5 sections 7.1, 7.5 and A.4; the limits and the numbers
-- are this product's own profile). They are checked in this order; a fault has the tag of the header.
use Rattle.std.specs.Prelude.{ℕ, ◌+◌, ◌%◌, Bool, true, false, not, ◌&&◌, ◌||◌, List, length, Option, Some, None, nat_eq, nat_le, nat_lt, if◌then◌else◌}
use Rattle.element.specs.declared.tag.Tag.{Tag}
use Rattle.element.specs.declared.header.Header.{Header}
use Rattle.element.specs.declared.size.Need.{Need}
use Rattle.element.specs.declared.size.Need.TheVariants.{More, Size, BadVr}
use Rattle.element.specs.Header.{number, is_marker, is_plain, tag_at, need, is_whole, header_at, item_tag, item_end_tag, sequence_end_tag}
use Rattle.sequence.specs.Coding.{layout, has_fragments}
use Rattle.sequence.specs.declared.wanted.Want.{Want}
use Rattle.sequence.specs.declared.spot.Spot.{Spot}
use Rattle.sequence.specs.declared.shape.Shape.{Shape}
use Rattle.sequence.specs.declared.shape.Shape.TheVariants.{Value, Sequence, NotAllowed}
use Rattle.sequence.specs.Shape.{is_undefined, shape}
use Rattle.sequence.specs.Wanted.{room_of}
use Rattle.element.specs.RuleNames.{rule_number}
use Rattle.element.specs.declared.rule.Rule.TheVariants as rules

-- the limits of a data set: the wanted tags with the greatest sizes of their values, the greatest number of open
-- levels, and the greatest size in bytes
pub record Limits : Type 0 where
  pub wanted : List Want
  pub depth : ℕ
  pub bytes : ℕ

-- ---- the rules, each with its number

-- a header in Explicit has no two capital letters where its VR stands
abbrev pub bad_vr : ℕ
bad_vr = rule_number rules.BadVr

-- a defined length that is odd
abbrev pub odd_length : ℕ
odd_length = rule_number rules.OddLength

-- a tag that is not above that of the element before it in the same data set or item
abbrev pub not_rising : ℕ
not_rising = rule_number rules.Order

-- a tag of group 0000 or 0002, which no data set contains
abbrev pub bad_group : ℕ
bad_group = rule_number rules.BadGroup

-- an element or a fragment with undefined length that may not have it
abbrev pub undefined_not_allowed : ℕ
undefined_not_allowed = rule_number rules.UndefinedLength

-- an item or a delimitation where none may stand, or another element where one has to
abbrev pub unexpected_tag : ℕ
unexpected_tag = rule_number rules.UnexpectedTag

-- a delimitation whose length is not 0
abbrev pub delimiter_length : ℕ
delimiter_length = rule_number rules.DelimiterLength

-- a header, value, sequence or item that passes the end of the level around it
abbrev pub overrun : ℕ
overrun = rule_number rules.Overrun

-- more open levels than the limit
abbrev pub too_deep : ℕ
too_deep = rule_number rules.TooDeep

-- a data set of more bytes than the limit
abbrev pub too_long : ℕ
too_long = rule_number rules.TooLong

-- the data set ends inside a header, a value, a sequence or an item
abbrev pub truncated : ℕ
truncated = rule_number rules.Truncated

-- a wanted value that is longer than its limit
abbrev pub kept_too_long : ℕ
kept_too_long = rule_number rules.KeptTooLong

-- the number of the broken rule and the tag of the fault, if a rule is broken
abbrev pub Broken : Type 0
Broken = Option (ℕ × Tag)

-- the tag (0000,0000), which stands for no tag in a fault
abbrev pub no_tag : Tag
no_tag = record { 0 = 0; 1 = 0 }

-- whether the tags are equal
-- e.g. same_tag no_tag no_tag ≡ true
abbrev pub same_tag : Tag → Tag → Bool
same_tag t u = nat_eq t.0 u.0 && nat_eq t.1 u.1

-- whether n bytes are more than remain; without a count there is no end
-- e.g. passes (Some 8) 9 ≡ true; passes (Some 8) 8 ≡ false; passes None 9 ≡ false
abbrev pub passes : Option ℕ → ℕ → Bool
passes None n = false
passes (Some remaining) n = nat_lt remaining n

-- before the first byte of a header: fewer than 8 bytes remain in a level of defined length (17)
-- e.g. broken_due (record { syntax = Explicit; in_sequence = false; open_ended = false; near = Some 7; last = 0; depth
-- = 1; offset = 0 }) ≡ Some (17, no_tag)
abbrev pub broken_due : Spot → Broken
broken_due spot = if passes spot.near 8 then Some (overrun, no_tag) else None

-- at the fourth byte: an item or a delimitation out of place (15), a group that no data set has (13), a tag not above
-- the one before (12)
-- e.g. broken_tag (record { syntax = Explicit; in_sequence = false; open_ended = false; near = Some 7; last = 0; depth
-- = 1; offset = 0 }) (record { 0 = 0; 1 = 2 }) ≡ Some (13, record { 0 = 0; 1 = 2 })
unfoldable pub broken_tag : Spot → Tag → Broken
broken_tag spot t =
    if spot.in_sequence
    then (if same_tag t item_tag || (same_tag t sequence_end_tag && spot.open_ended) then None else Some (unexpected_tag, t))
    else (if is_marker t then (if same_tag t item_end_tag && spot.open_ended then None else Some (unexpected_tag, t))
    else (if nat_eq t.0 0 || nat_eq t.0 2 then Some (bad_group, t)
    else (if nat_le (number t) spot.last then Some (not_rising, t)
    else None)))

-- at the sixth byte of a header with a VR: no two capital letters (10), or the header passes the end of a level (17)
-- e.g. broken_need (record { syntax = Explicit; in_sequence = false; open_ended = false; near = Some 7; last = 0; depth
-- = 1; offset = 0 }) BadVr no_tag ≡ Some (10, no_tag)
-- e.g. broken_need (record { syntax = Explicit; in_sequence = false; open_ended = false; near = Some 7; last = 0; depth
-- = 1; offset = 0 }) (Size 8) no_tag ≡ Some (17, no_tag)
abbrev pub broken_need : Spot → Need → Tag → Broken
broken_need spot More t = None
broken_need spot BadVr t = Some (bad_vr, t)
broken_need spot (Size n) t = if passes spot.near n then Some (overrun, t) else None

-- whether the header is that of a value
-- e.g. is_value Value ≡ true
abbrev pub is_value : Shape → Bool
is_value Value = true
is_value (Sequence s) = false
is_value NotAllowed = false

-- whether the header is that of a sequence
-- e.g. is_sequence Value ≡ false
abbrev pub is_sequence : Shape → Bool
is_sequence (Sequence s) = true
is_sequence Value = false
is_sequence NotAllowed = false

-- whether the length is undefined, and the element may not have it
-- e.g. is_not_allowed NotAllowed ≡ true
abbrev pub is_not_allowed : Shape → Bool
is_not_allowed NotAllowed = true
is_not_allowed Value = false
is_not_allowed (Sequence s) = false

-- a delimitation whose length is not 0
-- e.g. is_long_mark (record { tag = sequence_end_tag; vr = None; length = 2 }) ≡ true
-- e.g. is_long_mark (record { tag = item_tag; vr = None; length = 2 }) ≡ false
abbrev pub is_long_mark : Header → Bool
is_long_mark h = (is_marker h.tag && not (same_tag h.tag item_tag)) && not (nat_eq h.length 0)

-- how many bytes follow a header by its length; 0 for undefined length
-- e.g. counted_length 0xffffffff ≡ 0; counted_length 8 ≡ 8
abbrev pub counted_length : ℕ → ℕ
counted_length n = if is_undefined n then 0 else n

-- the header of a wanted value of the data set itself that is longer than its limit
abbrev pub is_too_long : Limits → Spot → Header → Bool
is_too_long lim spot h = ((nat_eq spot.depth 0 && not (is_marker h.tag)) && is_value (shape spot.syntax h)) && passes (room_of lim.wanted (number h.tag)) h.length

-- the header of a fragment whose length is undefined
abbrev pub is_endless : Spot → Header → Bool
is_endless spot h = (is_marker h.tag && has_fragments spot.syntax) && is_undefined h.length

-- the header opens a level: it is that of a sequence or an item whose length is not 0, and not of a fragment
-- e.g. opens (record { syntax = Explicit; in_sequence = false; open_ended = false; near = Some 7; last = 0; depth = 1;
-- offset = 0 }) (record { tag = item_tag; vr = None; length = 8 }) ≡ true
-- e.g. opens (record { syntax = Explicit; in_sequence = false; open_ended = false; near = Some 7; last = 0; depth = 1;
-- offset = 0 }) (record { tag = item_tag; vr = None; length = 0 }) ≡ false
abbrev pub opens : Spot → Header → Bool
opens spot h = ((is_marker h.tag && not (has_fragments spot.syntax)) || is_sequence (shape spot.syntax h)) && not (nat_eq h.length 0)

-- at the last byte of a header: a delimitation whose length is not 0 (16), an undefined length that is not allowed
-- (14), an odd length (11), a value or level that passes the end of a level around it (17) or the greatest size of a
-- data set (19), a wanted value longer than its limit (21), a level more than the limit (18)
-- e.g. broken_header (record { wanted = []; depth = 64; bytes = 1024 }) (record { syntax = Explicit; in_sequence =
-- false; open_ended = false; near = Some 7; last = 0; depth = 1; offset = 0 }) 8 (record { tag = record { 0 = 8; 1 = 0
-- }; vr = Some (codes "UL"); length = 3 }) ≡ Some (11, record { 0 = 8; 1 = 0 })
unfoldable pub broken_header : Limits → Spot → ℕ → Header → Broken
broken_header lim spot size h =
    if is_long_mark h then Some (delimiter_length, h.tag)
    else (if not (is_marker h.tag) && is_not_allowed (shape spot.syntax h) then Some (undefined_not_allowed, h.tag)
    else (if is_endless spot h then Some (undefined_not_allowed, h.tag)
    else (if not (is_undefined h.length) && nat_eq (h.length % 2) 1 then Some (odd_length, h.tag)
    else (if not (is_undefined h.length) && passes spot.near (size + h.length) then Some (overrun, h.tag)
    else (if nat_lt lim.bytes (spot.offset + size + counted_length h.length) then Some (too_long, h.tag)
    else (if is_too_long lim spot h then Some (kept_too_long, h.tag)
    else (if opens spot h && nat_le lim.depth spot.depth then Some (too_deep, h.tag)
    else None)))))))

-- the first of two rules that is broken
-- e.g. (None or_else Some (17, no_tag)) ≡ Some (17, no_tag)
infixr 20 ◌or_else◌
abbrev pub ◌or_else◌ : Broken → Broken → Broken
(Some x) or_else y = Some x
None or_else y = y

-- the broken rule, if the condition holds
-- e.g. when false (Some (17, no_tag)) ≡ None
abbrev pub when : Bool → Broken → Broken
when true x = x
when false x = None

-- the first rule that the bytes t of a header, all or its first ones, break (law `sequence::a_header_past_its_item`)
unfoldable pub broken : Limits → Spot → List ℕ → Broken
broken lim spot t =
    broken_due spot
    or_else when (nat_le 4 (length t)) (broken_tag spot (tag_at t))
    or_else when (nat_le 6 (length t) && not (is_plain (layout spot.syntax) (tag_at t))) (broken_need spot (need (layout spot.syntax) t) (tag_at t))
    or_else when (is_whole (layout spot.syntax) t) (broken_header lim spot (length t) (header_at (layout spot.syntax) t))
