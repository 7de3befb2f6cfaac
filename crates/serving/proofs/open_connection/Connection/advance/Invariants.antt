-- The connection is the one that was opened, no more is left than may be consumed, no file waits, and the server itself did
-- nothing to it.
use Rattle.std.proofs.Common.{◌≡◌, ◌≤◌, false}
use Rattle.serving.specs.Connections.{filing_of, interventions_in, origin_of}
use Rattle.serving.proofs.open_connection.Connection.advance.Given as goal

abbrev pub invariant-loop : goal.invariant-loop
invariant-loop g l =
    (origin_of l.self ≡ origin_of l.fn.self) × (l.remaining ≤ l.most) × (g.F.Settling.has_pending (filing_of l.self) ≡ false)
    × (interventions_in l.self ≡ interventions_in l.fn.self)
