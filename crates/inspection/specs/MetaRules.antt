-- Which rule of the file meta information an element breaks (PS3.10 section 7.1).
use Rattle.std.specs.Prelude.{ℕ, ◌-◌, ◌%◌, not, Option, Some, None, nat_eq, nat_le, nat_lt, if◌then◌else◌}
use Rattle.element.specs.declared.header.Header.{Header}
use Rattle.inspection.specs.declared.meta_rule.MetaRule.{MetaRule}
use Rattle.inspection.specs.declared.meta_rule.MetaRule.TheVariants as broken

-- the rule that an element breaks after one with the number `last`, if its header has this size and so many bytes of
-- the group remain
abbrev pub rule_of : Header → ℕ → ℕ → ℕ → Option MetaRule
rule_of h size last remaining =
    if nat_lt remaining size then Some broken.End
    else (if not (nat_eq h.tag.0 2) then Some (broken.Group h.tag)
    else (if nat_le h.tag.1 last then Some (broken.Order h.tag)
    else (if not (nat_eq (h.length % 2) 0) then Some (broken.Even h.tag)
    else (if nat_lt (remaining - size) h.length then Some broken.End
    else None))))
