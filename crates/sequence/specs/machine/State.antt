-- The state of the machine in the fields of a walker.
use Rattle.std.specs.Prelude.{◌≡◌, ℕ, ◌-◌, List, [], length, Bool, not, ◌&&◌, ◌||◌, nat_eq, nat_le}
use Rattle.sequence.specs.declared.coding.Coding.{Coding}
use Rattle.element.specs.declared.header.Header.{Header}
use Rattle.element.specs.Header.{number, is_marker}
use Rattle.sequence.specs.declared.level.Scope.{Scope}
use Rattle.sequence.specs.declared.wanted.Want.{Want}
use Rattle.sequence.specs.declared.stage.Stage.{Stage}
use Rattle.sequence.specs.declared.stage.Stage.TheVariants as stages
use Rattle.sequence.specs.declared.walker.Walker.{Walker}
use Rattle.sequence.specs.Coding.{has_fragments}
use Rattle.sequence.specs.Shape.{shape}
use Rattle.sequence.specs.Wanted.{Values, room_of}
use Rattle.sequence.specs.Rules.{is_sequence, is_value, passes}
use Rattle.sequence.specs.machine.Machine.{State, at, Mode, Heading, Reading, Stopped}
use Rattle.sequence.specs.machine.Scopes.{top_of, below_of}
use Rattle.sequence.specs.Stored.{wants_of, values_of}
pub use Rattle.sequence.specs.Consumed.{limits_of, walker_syntax, fault_of, reported_by}
pub use Rattle.sequence.specs.Fields.{fault_by}
pub use Rattle.sequence.specs.machine.Holding.{HoldsFront}
pub use Rattle.sequence.specs.Consumed.{StandsAt}

abbrev pub mode_of : Stage → ℕ → List ℕ → Mode
mode_of stages.Heading offset header = Heading (offset - length header) header
mode_of (stages.Value tag remaining kept) offset header = Reading tag remaining
mode_of (stages.Stopped fault) offset header = Stopped fault.number fault.offset fault.tag

abbrev pub top : {V D : ℕ} → Walker V D → Scope
top w = top_of w.root w.levels.items

abbrev pub below : {V D : ℕ} → Walker V D → List Scope
below w = below_of w.root [] w.levels.items

abbrev pub state_of : {V D : ℕ} → Walker V D → State
state_of w = at (top w) (below w) w.offset (mode_of w.stage w.offset w.header.items)

abbrev pub kept_values : {V D : ℕ} → Walker V D → Values
kept_values w = values_of w.kept

-- the fields of a walker that no step changes
pub record IsSameWalk {V D : ℕ} (old new : Walker V D) : Type 0 where
  pub syntax : new.root.syntax ≡ old.root.syntax
  pub limit : new.limit ≡ old.limit
  pub wanted : wants_of new.kept ≡ wants_of old.kept

-- if the header opens a level, fewer than `limit` are open
abbrev pub has_room : ℕ → ℕ → Coding → Header → Bool
has_room limit depth s h = not ((((is_marker h.tag && not (has_fragments s)) || is_sequence (shape s h)) && not (nat_eq h.length 0)) && nat_le limit depth)

-- if the header is that of a wanted value, this is not longer than its limit
abbrev pub fits_wanted : List Want → ℕ → Coding → Header → Bool
fits_wanted ws depth s h = not (((nat_eq depth 0 && not (is_marker h.tag)) && is_value (shape s h)) && passes (room_of ws (number h.tag)) h.length)
