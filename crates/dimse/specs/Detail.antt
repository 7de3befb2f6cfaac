-- The cause that the response to a failed C-STORE reports: the number and the name of a fault, and a tag (this
-- product's own profile).
use Rattle.std.specs.Prelude.{ℕ, Bool, true, false, ◌+◌, ◌/◌, ◌%◌, List, [], ◌∷◌, ◌++◌, Option, Some, None, codes, nat_eq, option_map, if◌then◌else◌}
use Rattle.element.specs.Padding.{padded}
use Rattle.element.specs.declared.rule.Rule.{Rule}
use Rattle.element.specs.declared.rule.Rule.TheVariants.{TooDeep, TooLong}
use Rattle.element.specs.RuleNames.{rule_of, text_of_rule}

-- the cause of a failure: the SOP Class UID of the data set is missing, invalid or other than the command's
abbrev pub class_mismatch : ℕ
class_mismatch = 45

-- the cause of a failure: the SOP Instance UID of the data set is missing, invalid or other than the command's
abbrev pub instance_mismatch : ℕ
instance_mismatch = 46

-- a rule that is a limit of the receiver: a store that breaks it has status A700, whose response has no cause
abbrev pub is_limit : Rule → Bool
is_limit TooDeep = true
is_limit TooLong = true
is_limit _ = false

-- the name of the rule that a data set breaks, if it is a cause
abbrev pub rule_cause : Option Rule → Option (List ℕ)
rule_cause None = None
rule_cause (Some rule) = if is_limit rule then None else Some (text_of_rule rule)

-- the name of the cause with this number: of a rule that a data set breaks, 10 to 21 except 18 and 19, or of a
-- mismatch of the data set with its command
-- e.g. cause_name 11 ≡ Some (codes "OddLength"); cause_name 99 ≡ None
abbrev pub cause_name : ℕ → Option (List ℕ)
cause_name n =
    if nat_eq n class_mismatch then Some (codes "ClassMismatch")
    else (if nat_eq n instance_mismatch then Some (codes "InstanceMismatch")
    else rule_cause (rule_of n))

-- a number below 100 in decimal
-- e.g. two_digits 45 ≡ codes "45"
abbrev pub two_digits : ℕ → List ℕ
two_digits n = (48 + n / 10) ∷ (48 + n % 10) ∷ []

-- the error comment: `fault`, the number in decimal and the name, padded by a space (law `dimse::worked_causes`)
abbrev pub comment : ℕ → List ℕ → List ℕ
comment number name = padded 32 (codes "fault " ++ (two_digits number ++ (32 ∷ name)))

-- the error comment of a number that has a name
-- e.g. comment_of 11 ≡ Some (codes "fault 11 OddLength"); comment_of 99 ≡ None
abbrev pub comment_of : ℕ → Option (List ℕ)
comment_of number = option_map (comment number) (cause_name number)
