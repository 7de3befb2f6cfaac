-- The code is the machine: each private method of the walker ensures that `state_of` after it is the machine's state.
--
-- InnermostLevel    the innermost level, a push and a pop
-- StateAfterCall    the state after a method's calls
-- WhereRulesBreak   a header may break a rule after four bytes, after six, and at its end
-- FittingHeader     a whole header that fits before the nearest end, and breaks no other rule
-- KeptHeader        a header of which some bytes are kept
-- SplitHeader       it is put together from these and the first bytes of a piece
-- HeaderBytes       several bytes of a header at once are these bytes one after the other
-- ValueBytes        and so are several bytes of a value
pub mod InnermostLevel
pub mod StateAfterCall
pub mod WhereRulesBreak
pub mod FittingHeader
pub mod KeptHeader
pub mod SplitHeader
pub mod HeaderBytes
pub mod ValueBytes
