pub mod Printable
pub mod Outcomes
pub mod Fragments
pub mod Ends
pub mod Reported
pub mod Limits
