-- The grammar leads the machine, so that nothing else is a front or a fault.
--
-- TreesRun           the machine goes over each whole tree that is spelled, or stops
-- FrontsRun          it goes over each front of a data set, to the levels of the front's path, or stops
-- LevelsArePaths     the levels that a text leads to are the path of a front
-- FaultsStop         it stops at each front that breaks a rule
-- NoFrontIsDeeper    no front that it went over is deeper than the limit
pub mod TreesRun
pub mod FrontsRun
pub mod LevelsArePaths
pub mod FaultsStop
pub mod NoFrontIsDeeper
