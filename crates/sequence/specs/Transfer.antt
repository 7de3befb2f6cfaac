-- The encoding of data sets by their transfer syntax (PS3.5 annex A).
use Rattle.std.specs.Prelude.{if◌then◌else◌}
use Rattle.dictionary.specs.declared.transfer.Transfer.{Transfer}
use Rattle.dictionary.specs.Transfers.{is_encapsulated, syntax_in}
use Rattle.sequence.specs.declared.coding.Coding.{Coding}
use Rattle.sequence.specs.declared.coding.Coding.TheVariants.{Encapsulated}
use Rattle.sequence.specs.Coding.{coding_of}

-- the encoding of a data set in this transfer syntax
abbrev pub coding_in : Transfer → Coding
coding_in transfer = if is_encapsulated transfer then Encapsulated else coding_of (syntax_in transfer)
