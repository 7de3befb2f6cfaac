use Rattle.std.proofs.Common.{◌≡◌, nat_eq, drop}
use Rattle.std.specs.List.{find}
use Rattle.negotiate.proofs.table.context_of.Given as goal

abbrev pub invariant-loop-row : goal.invariant-loop-row
invariant-loop-row l = find (λ row. nat_eq row.id l.id) l.table ≡ find (λ row. nat_eq row.id l.id) (drop l.row-index l.table)
