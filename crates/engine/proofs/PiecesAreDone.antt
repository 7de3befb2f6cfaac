-- The events of a piece, one after the other, do what the marks of the piece give (`DoesPart`): `PieceIsDone.consumed_all`.
--
-- EntriesJoin      one entry after the other, with failures that count at the next
-- EventShape       what a call with an event says of the deframer, and the room for it
-- FramesAndMarks   the marks of events, and a frame with one more part
-- EventIsDone      each event, by where the deframer stands
-- SkippedPdu       a PDU of which nothing counts goes by
-- PieceIsDone      all events of a piece
pub mod EntriesJoin
pub mod EventShape
pub mod FramesAndMarks
pub mod EventIsDone
pub mod SkippedPdu
pub mod PieceIsDone
