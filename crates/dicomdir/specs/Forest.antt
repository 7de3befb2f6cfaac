-- Trees of nodes, as those of a directory (PS3.3 section F.4).
use Rattle.std.specs.Prelude.{ℕ, suc, ◌+◌}

-- a list of siblings: each node has contents, and nodes below it
pub data Forest (N : Type 0) : Type 0 where
  no_nodes : Forest N
  node : N → Forest N → Forest N → Forest N

-- the number of nodes
abbrev pub count_of : {N : Type 0} → Forest N → ℕ
count_of no_nodes = 0
count_of (node n below next) = suc (count_of below + count_of next)
