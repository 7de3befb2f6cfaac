-- What holds along every timeline, and of what happened along it, without an association that consumes it.
--
-- TimelineGrows         with more inputs the old entries stay
-- StoriesJoin           one part of what happened after another
-- HeadsAreFirst        a value comes after its head, a request's end after its head
-- ContextsAreAccepted   so each message that ends was received in an accepted context
-- NothingAfterTheEnd    no entry does anything to an association that has ended
-- AbortsAreSent         a decision to abort has its A-ABORT
-- CutsDoNotShow         the cuts of the stream do not show
pub mod TimelineGrows
pub mod StoriesJoin
pub mod HeadsAreFirst
pub mod ContextsAreAccepted
pub mod NothingAfterTheEnd
pub mod AbortsAreSent
pub mod CutsDoNotShow
