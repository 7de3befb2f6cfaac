-- Each method of `Provider` does what its mark gives (`Does`), with a fair outcome.
--
-- PduHead        the head of a PDU
-- BodyPart       a part of the body of one
-- RowsFit        the rows of a request's contexts fit where its body was
-- WholeRequest   an association request, and a release request
-- WholePdu       the end of a PDU, by its type
-- PdvJoined      the head and the fragment of a presentation data value
-- StoreAsked     which commands ask for a store
-- DataOfStores   the data of a store begin and continue
-- MessageEnds    a message is whole, and is answered
pub mod PduHead
pub mod BodyPart
pub mod RowsFit
pub mod WholeRequest
pub mod WholePdu
pub mod PdvJoined
pub mod StoreAsked
pub mod DataOfStores
pub mod MessageEnds
