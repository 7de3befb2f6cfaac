-- Why a server closes a connection. This product's own profile.
use Rattle.std.specs.Prelude.{◌≡◌, ◌⊎◌, ◌||◌, ◌&&◌, Bool, not, true, false}
use Rattle.engine.specs.declared.report.Standing.TheVariants.{Ended}
use Rattle.serving.specs.declared.open_connection.ConnectionEnd.{ConnectionEnd}

-- whether a connection is to be closed: its association has ended, a file was lost, or its server stops and no file waits
-- to be settled
abbrev pub is_to_close : Bool → Bool → Bool → Bool → Bool
is_to_close has_ended is_lost is_stopped has_pending = has_ended || (is_lost || (is_stopped && not has_pending))

-- a connection was closed for one of these causes
abbrev pub IsCaused : {S F : Type 0} → ConnectionEnd S F → Type 0
IsCaused e = (e.exchange.report.standing ≡ Ended) ⊎ ((e.is_lost ≡ true) ⊎ ((e.is_stopped ≡ true) × (e.has_pending ≡ false)))
