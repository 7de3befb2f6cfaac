-- The state of the data set of a message in an association.
use Rattle.std.specs.Prelude.{◌≡◌, ℕ, Bool, false, List}
use Rattle.sequence.specs.Transfer.{coding_in}
use Rattle.sequence.specs.declared.coding.Coding.{Coding}
use Rattle.sequence.specs.declared.walker.Walker.{Walker}
use Rattle.sequence.specs.Rules.{Limits}
use Rattle.sequence.specs.Consumed.{StandsAt, walker_syntax, limits_of, reported_by}
use Rattle.dimse.specs.Messages.{Started}
use Rattle.engine.specs.declared.stores.Storing.{Storing}
use Rattle.engine.specs.declared.stores.Storing.TheVariants as storing
use Rattle.engine.specs.Requested.{Requested}
use Rattle.engine.specs.Fair.{InStore}
use Rattle.engine.specs.Stores.{limits}

-- the state as contracts see it: no data set is handled; or a walker reads it, and the filing has its draft or not
pub data Stored : Type 0 where
  Nothing : Stored
  Walking : {V D : ℕ} → (walker : Walker V D) → (drafting : Bool) → Stored

abbrev pub stored_of : {V D : ℕ} → Storing V D → Stored
stored_of storing.Nothing = Nothing
stored_of (storing.DataSet drafting walker) = Walking walker drafting

abbrev pub drafting_in : Stored → Bool
drafting_in Nothing = false
drafting_in (Walking walker drafting) = drafting

-- how many bytes are held of the data set
abbrev pub held_in : Stored → ℕ
held_in Nothing = 0
held_in (Walking walker drafting) = (reported_by walker).held

-- the walker of a data set of this encoding, with these limits, has read these bytes of it
pub record HasWalked {V D : ℕ} (walker : Walker V D) (syntax : Coding) (lim : Limits) (set : List ℕ) : Type 0 where
  pub stands : StandsAt walker set
  pub syntax_is : walker_syntax walker ≡ syntax
  pub limits_are : limits_of walker ≡ lim

-- The state of the data set of a message, in the association of this request: that of a C-STORE of the SOP class of
-- its presentation context is walked, any other is dropped.
pub data Walks (depth most : ℕ) (request : Requested) (message : Started) : Stored → Type 0 where
  not_walked : (InStore request message → ⊥) → Walks depth most request message Nothing
  walked : {V D : ℕ} {walker : Walker V D} {drafting : Bool} → (store : InStore request message)
      → HasWalked walker (coding_in store.context.syntax) (limits depth most) store.set → Walks depth most request message (Walking walker drafting)
