-- The fault in the result of a walker's step, if any, and the fault of a directory for a fault of its File Meta
-- Information.
use Rattle.std.specs.Prelude.{Option, None, Some}
use Rattle.sequence.specs.Rules.{no_tag}
use Rattle.sequence.specs.declared.fault.Fault.{Fault}
use Rattle.sequence.specs.declared.step.Step.{Step}
use Rattle.sequence.specs.declared.step.Step.TheVariants.{Refused}
use Rattle.part10.specs.declared.meta_fault.MetaFault.{MetaFault}
use Rattle.part10.specs.declared.meta_fault.MetaFault.TheVariants.{NotPart10, BadMeta, OtherSyntax, ReadFailed}
use Rattle.dicomdir.specs.declared.fault.DirFault.{DirFault}

abbrev pub refusal_of : Step → Option Fault
refusal_of (Refused fault) = Some fault
refusal_of step = None

-- the fault 67 for a failed read is never reported, since the file is in memory
abbrev pub header_fault_of : MetaFault → DirFault
header_fault_of NotPart10 = record { number = 50; offset = 128; tag = no_tag }
header_fault_of BadMeta = record { number = 51; offset = 132; tag = no_tag }
header_fault_of OtherSyntax = record { number = 53; offset = 132; tag = no_tag }
header_fault_of ReadFailed = record { number = 67; offset = 0; tag = no_tag }
