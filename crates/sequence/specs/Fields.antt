-- What the fields of a walker say, in terms of the definitions: its open levels, its wanted values, and the header or
-- value that is unfinished.
use Rattle.std.specs.Prelude.{ℕ, Bool, false, List, [], ◌∷◌, Option, Some, None, take, drop, nat_eq, if◌then◌else◌}
use Rattle.sequence.specs.declared.coding.Coding.{Coding}
use Rattle.sequence.specs.declared.coding.Coding.TheVariants.{Implicit, Explicit, Encapsulated, Fragments}
use Rattle.element.specs.Header.{number}
use Rattle.sequence.specs.declared.fault.Fault.{Fault}
use Rattle.sequence.specs.declared.level.Level.{Level}
use Rattle.sequence.specs.declared.level.Scope.{Scope}
use Rattle.sequence.specs.declared.stage.Stage.{Stage}
use Rattle.sequence.specs.declared.stage.Stage.TheVariants.{Heading, Value, Stopped}
use Rattle.sequence.specs.declared.wanted.Want.{Want}
use Rattle.sequence.specs.Wanted.{Values}
use Rattle.sequence.specs.Holding.{Pending, header_started, value_due}

-- the encoding of a level, from the number in its field
abbrev pub coding_by : ℕ → Coding
coding_by n = if nat_eq n 1 then Implicit else (if nat_eq n 2 then Encapsulated else (if nat_eq n 3 then Fragments else Explicit))

-- a level, from its fields: the end FFFFFFFFFFFFFFFFH stands for undefined length
abbrev pub scope_of : Level → Scope
scope_of l = record {
  in_sequence = nat_eq l.kind 1;
  syntax = coding_by l.implicit;
  stop = if nat_eq l.end 0xffff_ffff_ffff_ffff then None else Some l.end;
  last = l.last;
}

-- the levels of a list with the innermost last, put before those of a list with the innermost first
abbrev pub scopes_in : List Scope → List Level → List Scope
scopes_in round [] = round
scopes_in round (l ∷ ls) = scopes_in (scope_of l ∷ round) ls

-- FFFFFFFFH stands in place of the length of a wanted value that was not read
abbrev pub absent : ℕ
absent = 0xffffffff

abbrev pub is_absent : ℕ → Bool
is_absent n = nat_eq n absent

-- the wanted values, from their lengths, in the order of the wanted tags, and their bytes one after another
abbrev pub stored : List Want → List ℕ → List ℕ → Values
stored [] lengths bytes = []
stored (w ∷ ws) [] bytes = []
stored (w ∷ ws) (n ∷ lengths) bytes = if is_absent n then stored ws lengths bytes else (number w.tag, take n bytes) ∷ stored ws lengths (drop n bytes)

-- whether the walker is inside a wanted value
abbrev pub is_kept : Stage → Bool
is_kept Heading = false
is_kept (Value tag remaining kept) = kept
is_kept (Stopped fault) = false

abbrev pub but_last : Values → Values
but_last [] = []
but_last (one ∷ []) = []
but_last (one ∷ two ∷ values) = one ∷ but_last (two ∷ values)

-- the values that are whole: `started` says that the last one is not
abbrev pub reported_values : Bool → Values → Values
reported_values started values = if started then but_last values else values

abbrev pub fault_by : Stage → Option Fault
fault_by Heading = None
fault_by (Value tag remaining kept) = None
fault_by (Stopped fault) = Some fault

-- the unfinished header or value; after a fault, a header without bytes
abbrev pub pending_by : Stage → List ℕ → Pending
pending_by Heading header = header_started header
pending_by (Value tag remaining kept) header = value_due tag remaining
pending_by (Stopped fault) header = header_started header
