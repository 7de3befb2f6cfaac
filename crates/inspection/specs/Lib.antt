pub mod BareForm
pub mod FileKinds
pub mod ElementVrs
pub mod NamedTag
pub mod MetaRules
