pub mod Ends
pub mod Statuses
pub mod Counting
pub mod Due
