pub mod Copying
pub mod Arranged
pub mod Names
pub mod Patterns
pub mod Placing
