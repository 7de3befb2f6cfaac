-- The theorem of this crate, and which folder proves which step of it; each folder's file says what its files prove.
--
-- A walker that consumed the bytes b, in whatever pieces, stands at b (`StandsAt`, specs/Consumed): it has refused with the first fault
-- of b, or b has none and the walker reports and holds what the definitions say of b. `Walker::new` stands at no bytes, `step`
-- goes from b to b and what it consumed (clause `stands`), and `finish` is `Ok` exactly where b is a whole data set within its
-- limits.
--
-- Four things are tied to each other:
--
--   the text      which bytes spell which tree (`DataSet`), which fronts have which open levels (`Open`), which rule breaks
--                 first (`FirstFault`), what there is to report and to hold (`Reports`, `Holds`); all in specs/
--   a stand       the same of a state: its levels, its header or value, its wanted values (`Stands`, specs/machine/Standing)
--   the machine   consumes one byte after another: `run lim (start s) b` (specs/machine/Machine), and what is kept, `keeps`
--   the walker    the fields of the code as a state of the machine: `state_of w` (specs/machine/State)
--
--   MachineStands     from each text that it consumed to one byte more
--   GrammarLeads      the machine goes over what is spelled, and stops at what breaks a rule
--   MachineReports    so it reports and holds what there is to report and to hold
--   OneReading        a text has one of each
--   CodeIsMachine     the code is the machine: its private methods ensure that `state_of` after them is the machine's state
--   WantedValues      the wanted values in their one room
--   StepsStand        a call of the walker, from these: in any pieces; a refusal is for good
--   WholeDataSet      the end of a text
--   HeldIsBounded     what is held has a bound
--   EndsAreNested     the ends of a path are nested
--   NativeData        the two native syntaxes hold no fragments
--   WorkedTexts, WorkedSteps    the texts on which the definitions are tried, and the steps along them
--   Public            what the crates above cite: the contracts of `sequence::laws`
--
-- The folders with small letters have the answers to goals of single functions: walker, levels, heading, reading, keep, wanted,
-- and laws.
pub mod MachineStands
pub mod GrammarLeads
pub mod MachineReports
pub mod OneReading
pub mod CodeIsMachine
pub mod WantedValues
pub mod StepsStand
pub mod WholeDataSet
pub mod Public
pub mod NativeData
pub mod EndsAreNested
pub mod HeldIsBounded
pub mod WorkedTexts
pub mod WorkedSteps
