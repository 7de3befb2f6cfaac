pub mod Counting
pub mod DraftNames
pub mod Visiting
pub mod Keys
pub mod SameBytes
