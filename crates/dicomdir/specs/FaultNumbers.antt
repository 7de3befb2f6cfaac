-- The faults of a directory, each with its number (this product's own profile).
use Rattle.std.specs.Prelude.{ℕ, Bool, List, [], ◌∷◌, Option, nat_eq, Some, None, if◌then◌else◌, codes}
use Rattle.std.specs.List.{find}
use Rattle.dicomdir.specs.declared.rule.DirRule.{DirRule}
use Rattle.dicomdir.specs.declared.rule.DirRule.TheVariants.{BadOffset, Cycle, TwiceReached, Unreached, WrongLevel, BadFileId, TooLarge, OutOfMemory, BadRecord}
use Rattle.part10.specs.declared.meta_fault.MetaFault.TheVariants.{NotPart10, BadMeta, OtherSyntax}
use Rattle.part10.specs.MetaText.{fault_name}
use Rattle.element.specs.RuleNames.{rule_name}

-- the number of a rule
abbrev pub rule_number : DirRule → ℕ
rule_number BadOffset = 60
rule_number Cycle = 61
rule_number TwiceReached = 62
rule_number Unreached = 63
rule_number WrongLevel = 64
rule_number BadFileId = 65
rule_number TooLarge = 66
rule_number OutOfMemory = 67
rule_number BadRecord = 68

-- the rules, in the order of their numbers
abbrev pub all_rules : List DirRule
all_rules = BadOffset ∷ Cycle ∷ TwiceReached ∷ Unreached ∷ WrongLevel ∷ BadFileId ∷ TooLarge ∷ OutOfMemory ∷ BadRecord ∷ []

-- whether this is the rule's number
abbrev pub has_number : ℕ → DirRule → Bool
has_number n rule = nat_eq (rule_number rule) n

-- the rule with this number; none where there is no such rule
abbrev pub rule_of : ℕ → Option DirRule
rule_of n = find (has_number n) all_rules

-- an offset that is not the position of a record
abbrev pub bad_offset : ℕ
bad_offset = rule_number BadOffset

-- an offset that leads back to its own record, to an earlier sibling of that, or to a record above
abbrev pub cycle : ℕ
cycle = rule_number Cycle

-- an offset that leads to any other record that was reached before
abbrev pub twice_reached : ℕ
twice_reached = rule_number TwiceReached

-- a record in use to which no offset leads
abbrev pub unreached : ℕ
unreached = rule_number Unreached

-- a record whose type does not fit its level
abbrev pub wrong_level : ℕ
wrong_level = rule_number WrongLevel

-- an invalid file ID, or an IMAGE record without one
abbrev pub bad_file_id : ℕ
bad_file_id = rule_number BadFileId

-- a directory of 2^32 bytes or more
abbrev pub too_large : ℕ
too_large = rule_number TooLarge

-- memory ran out
abbrev pub out_of_memory : ℕ
out_of_memory = rule_number OutOfMemory

-- a missing or wrong element of the root or of a record
abbrev pub bad_record : ℕ
bad_record = rule_number BadRecord

-- ---- the names of what may be wrong with a directory (this product's own profile)

-- the name of a rule, as it is printed
abbrev pub text_of_rule : DirRule → List ℕ
text_of_rule BadOffset = codes "BadOffset"
text_of_rule Cycle = codes "Cycle"
text_of_rule TwiceReached = codes "TwiceReached"
text_of_rule Unreached = codes "Unreached"
text_of_rule WrongLevel = codes "WrongLevel"
text_of_rule BadFileId = codes "BadFileId"
text_of_rule TooLarge = codes "TooLarge"
text_of_rule OutOfMemory = codes "OutOfMemory"
text_of_rule BadRecord = codes "BadRecord"

-- the name of a rule of directories, or `other` if there is none
abbrev pub text_or : List ℕ → Option DirRule → List ℕ
text_or other None = other
text_or other (Some rule) = text_of_rule rule

-- the name of the rule of directories with this number, or `other` if there is none
abbrev pub link_name : ℕ → List ℕ → List ℕ
link_name n other = text_or other (rule_of n)

-- the name of the fault of a file header with this number
abbrev pub header_name : ℕ → List ℕ → List ℕ
header_name n other =
    if nat_eq n 50 then fault_name NotPart10
    else (if nat_eq n 51 then fault_name BadMeta
    else (if nat_eq n 53 then fault_name OtherSyntax
    else other))

-- the name of the fault with this number: of the file header, of the links and records, or of the data set
abbrev pub name_of_number : ℕ → List ℕ
name_of_number n = header_name n (link_name n (rule_name n))
