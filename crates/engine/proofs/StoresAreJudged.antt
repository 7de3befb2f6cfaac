-- Each store has one verdict, and no good image is refused.
--
-- VerdictIsThere   there is a verdict on each store
-- VerdictIsOne     and no other one
-- GoodImages       a good image is filed and answered by success, whatever else comes
pub mod VerdictIsThere
pub mod VerdictIsOne
pub mod GoodImages
