-- The effect of walking the data set of a file.
use Rattle.std.specs.Prelude.{◌≡◌, List, ℕ, Option, IfSome, ⊤}
use Rattle.sequence.specs.declared.coding.Coding.{Coding}
use Rattle.element.specs.Numbers.{IsBytes}
use Rattle.sequence.specs.declared.fault.Fault.{Fault}
use Rattle.sequence.specs.declared.walker.Walker.{Walker}
use Rattle.sequence.specs.Ending.{IsWholeDataSet, Fails}
use Rattle.sequence.specs.Rules.{Limits}
use Rattle.sequence.specs.Consumed.{StandsAt, walker_syntax, limits_of}
use Rattle.dicomdir_writing.specs.declared.skip.Skip.{Skip}
use Rattle.part10.specs.declared.meta_fault.MetaFault.{MetaFault}
use Rattle.part10.specs.declared.meta_fault.MetaFault.TheVariants.{ReadFailed}
use Rattle.dictionary.specs.declared.transfer.Transfer.{Transfer}
use Rattle.dicomdir_writing.specs.RowOf.{HeaderFaultOf}
use Rattle.dicomdir_writing.specs.declared.skip.Skip.TheVariants as skip

-- the text has a fault, and `reason` has its number
abbrev pub FailsBy : Coding → Limits → List ℕ → Skip → Type 0
FailsBy s lim text reason = (fault : Fault) × Fails s lim text fault × (reason ≡ skip.Fault fault.number)

-- the bytes that the reader had are a whole data set, which the walker has read
abbrev pub ConsumedWhole : {V D : ℕ} → Walker V D → Option (List ℕ) → Type 0
ConsumedWhole w old = IfSome old (λ text. StandsAt w text × IsWholeDataSet (walker_syntax w) (limits_of w) text)

-- the reason of a failure: a read failed (54), or the bytes that the reader had have a fault
pub data WalkFails {V D : ℕ} (w : Walker V D) (old : Option (List ℕ)) (reason : Skip) : Type 0 where
  read_failed : reason ≡ skip.Fault 54 → WalkFails w old reason
  text_fails : IfSome old (λ text. IsBytes text → FailsBy (walker_syntax w) (limits_of w) text reason) → WalkFails w old reason

-- a read failed, or the File Meta Information of the file has this fault, if these further transfer syntaxes are
-- supported
abbrev pub FailsToTake : List Transfer → MetaFault → Option (List ℕ) → Type 0
FailsToTake additional ReadFailed old = ⊤
FailsToTake additional fault old = IfSome old (λ file. HeaderFaultOf additional file fault)
