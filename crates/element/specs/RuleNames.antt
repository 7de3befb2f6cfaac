-- The numbers and the names of the rules (this product's own profile).
use Rattle.std.specs.Prelude.{ℕ, Bool, List, [], ◌∷◌, Option, Some, None, nat_eq, codes}
use Rattle.std.specs.List.{find}
use Rattle.element.specs.declared.rule.Rule.{Rule}
use Rattle.element.specs.declared.rule.Rule.TheVariants.{BadVr, OddLength, Order, BadGroup, UndefinedLength, UnexpectedTag, DelimiterLength, Overrun, TooDeep, TooLong, Truncated, KeptTooLong}

-- the number of a rule
abbrev pub rule_number : Rule → ℕ
rule_number BadVr = 10
rule_number OddLength = 11
rule_number Order = 12
rule_number BadGroup = 13
rule_number UndefinedLength = 14
rule_number UnexpectedTag = 15
rule_number DelimiterLength = 16
rule_number Overrun = 17
rule_number TooDeep = 18
rule_number TooLong = 19
rule_number Truncated = 20
rule_number KeptTooLong = 21

-- the name of a rule
abbrev pub text_of_rule : Rule → List ℕ
text_of_rule BadVr = codes "BadVr"
text_of_rule OddLength = codes "OddLength"
text_of_rule Order = codes "Order"
text_of_rule BadGroup = codes "BadGroup"
text_of_rule UndefinedLength = codes "UndefinedLength"
text_of_rule UnexpectedTag = codes "UnexpectedTag"
text_of_rule DelimiterLength = codes "DelimiterLength"
text_of_rule Overrun = codes "Overrun"
text_of_rule TooDeep = codes "TooDeep"
text_of_rule TooLong = codes "TooLong"
text_of_rule Truncated = codes "Truncated"
text_of_rule KeptTooLong = codes "KeptTooLong"

-- the rules of a data set, in the order of their numbers
abbrev pub all_rules : List Rule
all_rules = BadVr ∷ OddLength ∷ Order ∷ BadGroup ∷ UndefinedLength ∷ UnexpectedTag ∷ DelimiterLength ∷ Overrun ∷ TooDeep ∷ TooLong ∷ Truncated ∷ KeptTooLong ∷ []

-- whether a rule has this number
abbrev pub has_number : ℕ → Rule → Bool
has_number n rule = nat_eq (rule_number rule) n

-- the rule with this number; none where there is no such rule
abbrev pub rule_of : ℕ → Option Rule
rule_of n = find (has_number n) all_rules

-- the name of a rule, or `Unknown` if there is none
abbrev pub text_or_unknown : Option Rule → List ℕ
text_or_unknown None = codes "Unknown"
text_or_unknown (Some rule) = text_of_rule rule

-- the name of the rule with this number
abbrev pub rule_name : ℕ → List ℕ
rule_name n = text_or_unknown (rule_of n)
