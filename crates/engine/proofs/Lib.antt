-- The theorems of this crate, and which folder proves which step of them; each folder's file says what its files prove.
--
-- `run` returns a report on the whole received stream (`Run`, specs/Ran), whatever its pieces. The code sees one piece after the
-- other and keeps a few fields. From the code to the stream:
--
--   FieldsShow       the fields show where the timeline has led (`Pends`), before and after each event
--   MarksAreDone     each method of `Provider` does what its mark gives (`Does`)
--   StoresAreKept    draft and walker of a store are those of the data so far
--   PiecesAreDone    the events of a piece do what its marks give (`DoesPart`)
--   WholeRun         so an association stands as all its inputs say, and a run is its turns (`Ran`)
--
-- What follows, and what holds of timelines alone:
--
--   AlongTimelines   heads come first, contexts are accepted, nothing happens after the end, cuts do not show
--   HeldBytes        what is held is exact, one number, and bounded
--   StoresAreJudged  each store has one verdict, and no good image is refused
--   OutputIsBounded  a piece has an association send few bytes
--   PartsEnd         a portion ends with a part of a PDU, and nothing is decided before
--   WorkedRuns       the associations on which the definitions are tried
--   AssociationSize  an association has fewer than 2^63 bytes
--   Public           what the crates above cite: the contracts of `engine::laws`
--
-- The folders with small letters have the answers to goals of single functions.
pub mod FieldsShow
pub mod MarksAreDone
pub mod StoresAreKept
pub mod PiecesAreDone
pub mod AlongTimelines
pub mod WholeRun
pub mod HeldBytes
pub mod StoresAreJudged
pub mod OutputIsBounded
pub mod PartsEnd
pub mod WorkedRuns
pub mod Public
pub mod AssociationSize
