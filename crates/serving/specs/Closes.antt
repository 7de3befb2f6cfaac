-- When the transport's close is an input of an association (PS3.8 section 9.2.1: a transport connection closed
-- indication).
use Rattle.std.specs.Prelude.{◌≡◌, ◌≢◌, ℕ, ◌<◌, ◌⊎◌, List, [], ◌∷◌, ◌++◌}
use Rattle.engine.specs.Inputs.{Received, Close}

-- A socket has closed: a read reported its end, at least once since its last byte, and the association has accepted all
-- that was read; or a write accepted nothing, at least once since the socket last accepted a byte, and bytes wait for
-- it.
abbrev pub HasClosed : List ℕ → ℕ → List ℕ → ℕ → Type 0
HasClosed unconsumed ends unsent refusals = ((unconsumed ≡ []) × (0 < ends)) ⊎ ((unsent ≢ []) × (0 < refusals))

-- if the last of the inputs is the transport's close, the socket has closed
abbrev pub ClosesWithSocket : List Received → List ℕ → ℕ → List ℕ → ℕ → Type 0
ClosesWithSocket inputs unconsumed ends unsent refusals = (before : List Received) → inputs ≡ before ++ Close ∷ [] → HasClosed unconsumed ends unsent refusals
