pub mod CommandLine
pub mod Asked
pub mod AskedService
pub mod AskedCallers
pub mod AskedQuarantine
pub mod AskedSend
pub mod machine
pub use Rattle.clap.specs.Walk
