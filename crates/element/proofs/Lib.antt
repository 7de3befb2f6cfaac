pub mod Trimming
pub mod Headers
pub mod Written
pub mod LastZero
pub mod Histories
pub mod Public
