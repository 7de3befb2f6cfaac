-- the lemmas that the crates above cite, and no others
pub mod Public
pub mod JoinShowsTheMessage
pub mod FragmentsBringMore
pub mod SetElementsAreFound
pub mod SetIsSentWhole
pub mod SetIsItsElements
pub mod BytesSpellTheElement
pub mod TextSpellsOneCommand
pub mod TextHasOneCut
pub mod FragmentsMakeTheMessage
pub mod FragmentsAreInOrder
pub mod ReadCommandsNameUids
pub mod RepliesStayShort
pub mod ReadBack
pub mod PdusCarryFragments
