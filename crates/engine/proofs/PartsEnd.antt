-- A portion ends with a part of a PDU: `FewerDecideNothing.fewer_decide_nothing`, `SoManyCompleteAPart.completes_part`.
pub mod FewerDecideNothing
pub mod SoManyCompleteAPart
