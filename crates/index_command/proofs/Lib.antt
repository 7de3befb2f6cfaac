pub mod SharesAreKept
