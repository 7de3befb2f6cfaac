-- What the methods of a walker return about it, from its state and the kept values.
use Rattle.std.specs.Prelude.{ℕ, ◌+◌, ◌*◌, Option, None, Some, length}
use Rattle.sequence.specs.declared.fault.Fault.{Fault}
use Rattle.sequence.specs.Rules.{Limits}
use Rattle.sequence.specs.Walk.{Report}
use Rattle.sequence.specs.Wanted.{Values, size_of_values, level_size}
use Rattle.sequence.specs.machine.Machine.{State, Mode, Heading, Reading, Stopped}
use Rattle.sequence.specs.machine.Keeping.{whole_by}

abbrev pub fault_in : Mode → Option Fault
fault_in (Heading begin t) = None
fault_in (Reading t n) = None
fault_in (Stopped rule offset t) = Some (record { number = rule; offset = offset; tag = t })

abbrev pub header_in : Mode → ℕ
header_in (Heading begin t) = length t
header_in (Reading t n) = 0
header_in (Stopped rule offset t) = 0

abbrev pub reported_in : Limits → State → Values → Report
reported_in lim st values = record {
  fault = fault_in st.mode;
  levels = length st.below;
  offset = st.offset;
  held = header_in st.mode + size_of_values values + level_size * length st.below;
  kept = whole_by lim st.below st.mode values;
}
