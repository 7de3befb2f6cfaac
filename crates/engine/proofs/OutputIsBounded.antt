-- A piece has an association send few bytes: `OutputOfAPiece.output_of_a_piece`, `OutputOfAPortion.sends_few`.
pub mod OutputOfAPiece
pub mod OutputOfAPortion
