-- the lemmas that the crates above cite, and no others
pub mod Public
pub mod Bounds
pub mod WrittenHeaderReadsBack
pub mod OneHeader
pub mod Examples
pub mod PartFailsTheWhole
pub mod EightBytesGiveSize
pub mod UidIsInFront
pub mod PrefixIsSpelled
pub mod NoElementFollows
pub mod GroupIsItsElements
pub mod HeaderConsumedOrRefused
pub mod EncapsulatedSyntaxesFail
pub mod Verdicts
