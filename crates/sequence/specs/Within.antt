-- When a data set is within its limits (this product's own profile).
use Rattle.std.specs.Prelude.{◌≡◌, ℕ, ◌≤◌, List, ◌++◌, length, Some}
use Rattle.sequence.specs.declared.coding.Coding.{Coding}
use Rattle.element.specs.Header.{number}
use Rattle.sequence.specs.declared.wanted.Want.{Want}
use Rattle.sequence.specs.Tree.{Elements, no_elements, value, sequence}
use Rattle.sequence.specs.Open.{PathEntry, Tail, Open}
use Rattle.sequence.specs.Wanted.{room_of}
use Rattle.sequence.specs.Rules.{Limits}

-- no wanted value is longer than its limit
abbrev pub FitRooms : List Want → Elements → Type 0
FitRooms ws no_elements = Unit {0}
FitRooms ws (value h v es) = ((room : ℕ) → room_of ws (number h.tag) ≡ Some room → length v ≤ room) × FitRooms ws es
FitRooms ws (sequence h is es) = FitRooms ws es

-- the encoding b of the elements es has no more bytes than the limit, no front of it has more open levels than the
-- limit, and no wanted value is longer than its limit
pub record Within (s : Coding) (lim : Limits) (es : Elements) (b : List ℕ) : Type 0 where
  pub bytes : length b ≤ lim.bytes
  pub depth : (p rest : List ℕ) (some : Elements) (path : List PathEntry) (last : ℕ) (tail : Tail) → b ≡ p ++ rest → Open s p some path last tail → length path ≤ lim.depth
  pub rooms : FitRooms lim.wanted es
