-- What the code is proved against, in addition to the definitions.
pub mod View
pub mod SoFar
pub mod Positions
pub mod Finds
