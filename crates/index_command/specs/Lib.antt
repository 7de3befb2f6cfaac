pub mod LeftOut
pub mod Sharing
pub mod Sorting
