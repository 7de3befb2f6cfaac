-- A walker stands at the bytes that it consumed, whatever the pieces, and returns what there is to return: `StepConsumes`.
--
-- WalkerStands     a walker whose state is the machine's after b stands at b
-- StepReports      what a step returns of a header, of a value and of a fault
-- StepConsumes        what it consumes and returns is what `Answers` and `ConsumesMost` say
-- FaultStays       a first fault and a refusal are for good
-- RefusedStands    a walker that refused has consumed whatever comes after
pub mod WalkerStands
pub mod StepReports
pub mod StepConsumes
pub mod FaultStays
pub mod RefusedStands
