-- The bytes of the wanted values, stored one after the other in one room, are the values: `OneRoom`, `MoreBytes`.
pub mod OneRoom
pub mod MoreBytes
