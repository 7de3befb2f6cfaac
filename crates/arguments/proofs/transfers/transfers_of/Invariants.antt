use Rattle.std.proofs.Common.{◌≡◌, Some, length, map, take}
use Rattle.dictionary.specs.Transfers.{transfer_of}
use Rattle.arguments.proofs.transfers.transfers_of.Given as goal

abbrev pub invariant-loop-syntax : goal.invariant-loop-syntax
invariant-loop-syntax l = (length l.transfers.items ≡ l.syntax-index)
    × (map (λ t. transfer_of t.now) (take l.syntax-index l.syntaxes) ≡ map Some l.transfers.items)
