pub mod Fields
pub mod Operations
