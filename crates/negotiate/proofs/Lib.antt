-- the lemmas that the crates above cite, and no others
pub mod Public
pub mod AcceptedPeersTakeFragments
pub mod FrontIsItsParts
pub mod DictionaryDecidesByDefault
pub mod NativeSyntaxesArePreferred
pub mod FurtherClassIsFound
pub mod SortedTitlesAreFound
pub mod TableHasAcceptedContexts
pub mod AcceptancesAreShort
