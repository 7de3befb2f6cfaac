pub mod Names
pub mod Public
pub mod StorageClassesAreFew
pub mod TransferHasOneText
pub mod TransferNames
