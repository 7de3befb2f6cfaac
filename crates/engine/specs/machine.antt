-- What the code is proved against, in addition to the definitions.
pub mod Lent
pub mod HeadEvents
pub mod Answers
pub mod Accepted
pub mod Storing
pub mod Verdicts
pub mod Capacity
pub mod PerformsReaction
pub mod Tries
pub mod Judged
pub mod Messages
pub mod Does
pub mod Events
pub mod Skips
pub mod Shows
pub mod HeldHeads
