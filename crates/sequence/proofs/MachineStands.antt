-- A machine that stands at a text stands at it with one byte more: `OneMoreByte.next_stands`.
--
-- SoundHeader, UnbrokenHeader    what a header is that breaks no rule
-- HeaderParts                    a header that is not whole, and the byte that makes it whole
-- ReachedLevels, NestedLevels    what more text does to the levels; that they end in each other, within their limits
-- HeaderDue                      levels that end here are left, and a header is due
-- HeaderConsumed                    a header was made whole: a value, a sequence, an item or a delimitation
-- OneMoreByte                    each of these cases
pub mod SoundHeader
pub mod UnbrokenHeader
pub mod HeaderParts
pub mod ReachedLevels
pub mod NestedLevels
pub mod HeaderDue
pub mod HeaderConsumed
pub mod OneMoreByte
