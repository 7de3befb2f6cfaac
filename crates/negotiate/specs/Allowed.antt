-- What is accepted in addition to the dictionary's own classes and the two native transfer syntaxes (this product's own
-- profile).
use Rattle.std.specs.Prelude.{ℕ, List, []}
use Rattle.dictionary.specs.declared.transfer.Transfer.{Transfer}

-- the identifiers of storage classes, and transfer syntaxes
pub record Allowed : Type 0 where
  pub classes : List (List ℕ)
  pub transfers : List Transfer

-- no storage class and no transfer syntax in addition to the dictionary's own
abbrev pub nothing_additional : Allowed
nothing_additional = record { classes = []; transfers = [] }
