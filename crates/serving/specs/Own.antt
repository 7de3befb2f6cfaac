-- The inputs of an association that are the server's own: the expiry of the ARTIM timer and the abort of its local user
-- (PS3.8 section 9.2.1). The others are the peer's: its bytes, and the transport's close.
use Rattle.std.specs.Prelude.{List, [], ◌∷◌}
use Rattle.engine.specs.Inputs.{Received, Bytes, Close, Expiry, UserAbort}

-- the server's own among these inputs
abbrev pub own_of : List Received → List Received
own_of [] = []
own_of (Bytes piece ∷ inputs) = own_of inputs
own_of (Close ∷ inputs) = own_of inputs
own_of (Expiry ∷ inputs) = Expiry ∷ own_of inputs
own_of (UserAbort ∷ inputs) = UserAbort ∷ own_of inputs
