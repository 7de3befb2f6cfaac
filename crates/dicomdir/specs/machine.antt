pub mod Trail
pub mod Texts
pub mod Faults
