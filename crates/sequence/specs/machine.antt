-- The state machine that the code of this crate is proved against. No public contract depends on it.
pub mod Machine
pub mod Scopes
pub mod Keeping
pub mod Reported
pub mod Judging
pub mod Stored
pub mod Holding
pub mod Spare
pub mod Made
pub mod Standing
pub mod State
pub mod Heading
pub mod Steps
