-- How many more bytes the buffers of an association must be able to hold.
use Rattle.std.specs.Prelude.{◌≡◌, ℕ, ◌+◌, ◌≤◌, false, length}
use Rattle.acceptor.specs.declared.state.State.TheVariants.{Sta2, Sta6}
use Rattle.pdu.specs.Types.{associate_rq}
use Rattle.engine.specs.Kept.{Kept}

-- n more bytes of the body of a PDU of this type fit: a request's body has at most `room` bytes, others are not held
abbrev pub BodyFits : ℕ → Kept → ℕ → ℕ → Type 0
BodyFits room kept kind n = kept.state ≡ Sta2 → kept.refused ≡ false → kind ≡ associate_rq → length kept.body + n ≤ room

-- the unfinished fragment, if it is handled, has at least n more bytes
abbrev pub FragmentFits : Kept → ℕ → Type 0
FragmentFits kept n = kept.state ≡ Sta6 → kept.refused ≡ false → n ≤ kept.join.remaining
