-- The invariant of a deframer's position, and the bytes that it still expects.
use Rattle.std.specs.Prelude.{ℕ, ◌<◌, ◌≤◌}
use Rattle.pdu.specs.declared.position.Position.{Position}
use Rattle.pdu.specs.declared.position.Position.TheVariants.{Head, Body, PdvHead, Fragment, Leftover, Skipped}
use Rattle.pdu.specs.Deframing.{bytes_held}
pub use Rattle.pdu.specs.Steps.{fragment_due}

-- a number that is not 0 in a valid position: inside the head of a presentation data value the remaining bytes of the
-- PDU
abbrev pub remaining_least : Position → ℕ
remaining_least (PdvHead remaining bytes) = remaining
remaining_least other = 1

abbrev pub remaining_of : Position → ℕ
remaining_of (Head bytes) = 0
remaining_of (Body kind remaining) = remaining
remaining_of (PdvHead remaining bytes) = remaining
remaining_of (Fragment remaining more) = remaining
remaining_of (Leftover remaining) = remaining
remaining_of (Skipped kind remaining) = remaining

pub record IsSound (p : Position) : Type 0 where
  pub short : bytes_held p < 6
  pub some : 0 < remaining_least p
  pub within : fragment_due p ≤ remaining_of p
