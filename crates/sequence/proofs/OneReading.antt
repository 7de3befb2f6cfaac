-- A text has one tree, path, tail, first fault and report, and one thing to hold: `OneTree`, `OneReport`.
--
-- OneWay       header by header, a text is read in one way
-- OneTree      so it has one tree, path and tail
-- OneReport    so it has one first fault, one report, and one thing to hold
pub mod OneWay
pub mod OneTree
pub mod OneReport
