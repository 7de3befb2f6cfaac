-- The numbers and the names of the faults of association requests (this product's own profile).
use Rattle.std.specs.Prelude.{ℕ, List, codes}
use Rattle.pdu.specs.declared.fault.PduFault.{PduFault}
use Rattle.pdu.specs.declared.fault.PduFault.TheVariants.{BadLength, BadItem, BadContextId, DoubleContext, Missing}

abbrev pub fault_number : PduFault → ℕ
fault_number BadLength = 31
fault_number BadItem = 32
fault_number BadContextId = 33
fault_number DoubleContext = 34
fault_number Missing = 35

abbrev pub fault_name : PduFault → List ℕ
fault_name BadLength = codes "BadLength"
fault_name BadItem = codes "BadItem"
fault_name BadContextId = codes "BadContextId"
fault_name DoubleContext = codes "DoubleContext"
fault_name Missing = codes "Missing"
