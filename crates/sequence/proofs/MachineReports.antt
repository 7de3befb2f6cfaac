-- What the machine reports and holds of a text is what there is to report and to hold: `AnyText.reports`, `HeldIsState.walks`.
--
-- FrontAtText    where the machine stands there is a front, whose path is its levels
-- AnyText        it stands at any text, reports what is to be reported, and stops at the first fault
-- HeldIsState    what a walker reports and holds determines the machine's state, and the other way round
pub mod FrontAtText
pub mod AnyText
pub mod HeldIsState
