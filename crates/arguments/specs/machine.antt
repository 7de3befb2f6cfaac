-- What the code's private functions are proved against; no public contract cites it.
pub mod Tables
