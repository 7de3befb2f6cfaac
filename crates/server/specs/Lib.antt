pub mod FolderStore
pub mod Configuration
pub mod Histories
pub mod PowerLoss
pub mod machine
