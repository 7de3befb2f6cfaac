-- The limits of a data set, from the fields of a walker, and a broken rule as its number.
use Rattle.std.specs.Prelude.{ℕ, List, length, Option, ◌&&◌, not, nat_le, option_map}
use Rattle.sequence.specs.Coding.{layout}
use Rattle.sequence.specs.declared.wanted.Want.{Want}
use Rattle.sequence.specs.declared.spot.Bounds.{Bounds}
use Rattle.sequence.specs.declared.spot.Spot.{Spot}
use Rattle.element.specs.Header.{tag_at, is_plain, need, is_whole, header_at}
use Rattle.element.specs.declared.tag.Tag.{Tag}
use Rattle.element.specs.declared.rule.Rule.{Rule}
use Rattle.element.specs.RuleNames.{rule_number}
use Rattle.sequence.specs.Rules.{Limits, Broken, broken_tag, broken_need, broken_header, when}

abbrev pub limits_by : List Want → Bounds → Limits
limits_by ws bounds = record { wanted = ws; depth = bounds.depth; bytes = bounds.bytes }

-- a broken rule as its number, with the tag of its fault
abbrev pub numbered : Option (Rule × Tag) → Broken
numbered broken = option_map (λ x. (rule_number x.0, x.1)) broken

-- ---- the broken rule once four bytes (tag), six bytes (VR) or all bytes of a header are there

abbrev pub broken_at_tag : Spot → List ℕ → Broken
broken_at_tag spot t = when (nat_le 4 (length t)) (broken_tag spot (tag_at t))

abbrev pub broken_at_vr : Spot → List ℕ → Broken
broken_at_vr spot t = when (nat_le 6 (length t) && not (is_plain (layout spot.syntax) (tag_at t))) (broken_need spot (need (layout spot.syntax) t) (tag_at t))

abbrev pub broken_at_end : Limits → Spot → List ℕ → Broken
broken_at_end lim spot t = when (is_whole (layout spot.syntax) t) (broken_header lim spot (length t) (header_at (layout spot.syntax) t))
