pub mod Store
pub mod File
pub mod MetaText
pub mod Examples
pub mod machine
