pub mod Sending
pub mod Names
pub mod Handing
pub mod Requesting
pub mod ReadBack
