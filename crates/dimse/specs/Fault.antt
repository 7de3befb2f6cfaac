-- The numbers and the names of the faults of DIMSE messages (this product's own profile).
use Rattle.std.specs.Prelude.{ℕ, List, codes}
use Rattle.dimse.specs.declared.fault.DimseFault.{DimseFault}
use Rattle.dimse.specs.declared.fault.DimseFault.TheVariants.{CommandTooLong, BadCommand, UnknownField, WrongKind, OtherContext}

abbrev pub number_of : DimseFault → ℕ
number_of CommandTooLong = 40
number_of BadCommand = 41
number_of UnknownField = 42
number_of WrongKind = 43
number_of OtherContext = 44

abbrev pub fault_name : DimseFault → List ℕ
fault_name CommandTooLong = codes "CommandTooLong"
fault_name BadCommand = codes "BadCommand"
fault_name UnknownField = codes "UnknownField"
fault_name WrongKind = codes "WrongKind"
fault_name OtherContext = codes "OtherContext"
