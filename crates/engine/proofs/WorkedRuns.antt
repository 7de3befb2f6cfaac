-- The associations, stores and verdicts on which the definitions are tried.
--
-- Associations        what is sent, and the state, step by step
-- WholeAssociations   whole runs, what is held, and where they stand
-- OneCtStore          one store: filed, failed, cut
-- FaultyDataSets      verdicts on data sets that break a rule
-- VerdictOnOneImage   the verdicts on one image, and its file
pub mod Associations
pub mod WholeAssociations
pub mod OneCtStore
pub mod FaultyDataSets
pub mod VerdictOnOneImage
