-- `finish` is `Ok` exactly where the text is a whole data set within its limits: `WholeHasNoFault`, `FinishIsExact`.
--
-- SoundHeaderPasses    a header that keeps the rules does not stop the machine
-- OffsetsInside         the offsets in a whole data set, and the levels that are open there
-- WholeHasNoFault      so the machine goes over it
-- FinishIsExact        where the machine stands at the end, the text is whole, or ends too early
pub mod SoundHeaderPasses
pub mod OffsetsInside
pub mod WholeHasNoFault
pub mod FinishIsExact
