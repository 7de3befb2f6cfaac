-- The bytes that `held` returns are those that are held of the stream, one number, and within the limits at every point.
--
-- KeptByPhase         how many bytes are kept, by the phase
-- HeldIsExact         they are those that are held of the stream
-- HeldIsOne           their number is one
-- FitsTheRooms        what has come of a request and of a message fits its limits
-- HeldIsWithinRooms   so what is held has a bound
pub mod KeptByPhase
pub mod HeldIsExact
pub mod HeldIsOne
pub mod FitsTheRooms
pub mod HeldIsWithinRooms
