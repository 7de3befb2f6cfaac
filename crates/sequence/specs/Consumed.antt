-- The invariant of a walker: its state is determined by the bytes that it has read (this product's own profile).
use Rattle.std.specs.Prelude.{ℕ, ◌+◌, ◌*◌, List, [], ◌∷◌, Option, length}
use Rattle.element.specs.Numbers.{IsBytes}
use Rattle.sequence.specs.declared.coding.Coding.{Coding}
use Rattle.sequence.specs.declared.fault.Fault.{Fault}
use Rattle.sequence.specs.declared.walker.Walker.{Walker}
use Rattle.sequence.specs.Wanted.{size_of_values, level_size}
use Rattle.sequence.specs.Rules.{Limits}
use Rattle.sequence.specs.Walk.{Report, Reports}
use Rattle.sequence.specs.Holding.{Holding, Holds}
use Rattle.sequence.specs.Fields.{scopes_in, is_kept, reported_values, fault_by, pending_by}
use Rattle.sequence.specs.Stored.{wants_of, values_of}

-- the limits of the walker's data set
abbrev pub limits_of : {V D : ℕ} → Walker V D → Limits
limits_of {D = D} w = record { wanted = wants_of w.kept; depth = D; bytes = w.limit }

-- the encoding of the walker's data set
abbrev pub walker_syntax : {V D : ℕ} → Walker V D → Coding
walker_syntax w = w.root.syntax

-- the fault that the walker found, if any
abbrev pub fault_of : {V D : ℕ} → Walker V D → Option Fault
fault_of w = fault_by w.stage

-- what the walker reports: what its methods `levels`, `offset`, `held` and `kept` return
abbrev pub reported_by : {V D : ℕ} → Walker V D → Report
reported_by w = record {
  fault = fault_by w.stage;
  levels = length w.levels.items;
  offset = w.offset;
  held = length w.header.items + size_of_values (values_of w.kept) + level_size * length w.levels.items;
  kept = reported_values (is_kept w.stage) (values_of w.kept);
}

-- the state of the walker, from its fields
abbrev pub holding_by : {V D : ℕ} → Walker V D → Holding
holding_by w = record {
  levels = scopes_in (w.root ∷ []) w.levels.items;
  pending = pending_by w.stage w.header.items;
  values = values_of w.kept;
}

-- the walker is in the state after the bytes b, in whatever pieces they arrived
pub record StandsAt {V D : ℕ} (w : Walker V D) (b : List ℕ) : Type 0 where
  pub bytes : IsBytes b
  -- it reports what is defined for b; after a fault, for the part of b before the faulty header
  pub reports : Reports (walker_syntax w) (limits_of w) b (reported_by w)
  -- it has the open levels of the same text with their ends and last tags, the unfinished header or value, and the
  -- wanted values
  pub holds : Holds (walker_syntax w) (limits_of w) b (holding_by w)
