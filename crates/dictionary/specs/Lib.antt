pub mod Classes
pub mod Implementation
pub mod StorageClasses
pub mod StorageTable
pub mod Syntaxes
pub mod Tags
pub mod Transfers
pub mod machine
