-- What is kept of a store is the draft of its file, and a walker that has consumed the bytes of its data set (`Carried`).
--
-- DraftAndWalk     draft and walker with a part more; what the filing's calls leave
-- PartsAreWalked   a walker consumes a data set part by part, also after it refused
-- WalkIsJudged     what it reports is the verdict, and what comes of the draft
pub mod DraftAndWalk
pub mod PartsAreWalked
pub mod WalkIsJudged
