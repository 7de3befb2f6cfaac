-- The fields show where the timeline has led (`Pends`), also after each event; and what was tried then is what the entry does.
--
-- ByState          what holds by the acceptor's state
-- NothingCounts    what counts for nothing: fewer than six bytes of a value, and whatever comes after the end
-- KeptInPhases     what each phase keeps, and that nothing is kept after the end
-- AfterAnEvent     the fields after an event of the table
-- TriedIsDone      what was tried of the devices is what the entry does (`Does`)
-- ReactionIsPerformed        so is what a call without devices left due, once it happens
pub mod ByState
pub mod NothingCounts
pub mod KeptInPhases
pub mod AfterAnEvent
pub mod TriedIsDone
pub mod ReactionIsPerformed
