-- The wanted values that a walker keeps, as they change byte by byte.
use Rattle.std.specs.Prelude.{ℕ, zero, suc, ◌+◌, ◌-◌, Bool, true, ◌&&◌, ◌||◌, List, [], ◌∷◌, ◌++◌, Option, Some, None, if◌then◌else◌, nat_eq, nat_le}
use Rattle.element.specs.declared.header.Header.{Header}
use Rattle.element.specs.Header.{number, is_marker, is_whole, header_at}
use Rattle.sequence.specs.Coding.{layout}
use Rattle.sequence.specs.declared.level.Scope.{Scope}
use Rattle.sequence.specs.declared.wanted.Want.{Want}
use Rattle.sequence.specs.declared.shape.Shape.{Shape}
use Rattle.sequence.specs.declared.shape.Shape.TheVariants.{Value, Sequence, NotAllowed}
use Rattle.sequence.specs.Shape.{shape}
use Rattle.sequence.specs.Wanted.{Values, is_wanted}
use Rattle.sequence.specs.Rules.{Limits, Broken, broken}
use Rattle.sequence.specs.Fields.{is_absent, but_last}
use Rattle.sequence.specs.machine.Machine.{Mode, Heading, Reading, Stopped, State, is_empty, spot_of, next}

-- an element with tag t in these levels is of the data set itself, and t is wanted
abbrev pub wanted_at : Limits → List Scope → ℕ → Bool
wanted_at lim fs t = is_empty fs && is_wanted lim.wanted t

-- the values with the value v of an element with tag t, if that is wanted
abbrev pub with_value : Limits → List Scope → ℕ → List ℕ → Values → Values
with_value lim fs t v values = if wanted_at lim fs t then values ++ (t, v) ∷ [] else values

-- the values with one more byte of the last one
abbrev pub with_byte : Values → ℕ → Values
with_byte [] x = []
with_byte (one ∷ []) x = (one.0, one.1 ++ x ∷ []) ∷ []
with_byte (one ∷ two ∷ values) x = one ∷ with_byte (two ∷ values) x

abbrev pub keep_shaped : Limits → List Scope → Header → Shape → Values → Values
keep_shaped lim fs h Value values = with_value lim fs (number h.tag) [] values
keep_shaped lim fs h (Sequence inner) values = values
keep_shaped lim fs h NotAllowed values = values

-- the values after the whole header h: with an empty one, if h is that of a wanted value
unfoldable pub keep_header : Limits → Scope → List Scope → Header → Values → Values
keep_header lim f fs h values = if is_marker h.tag then values else keep_shaped lim fs h (shape f.syntax h) values

abbrev pub keep_headed : Limits → Broken → Scope → List Scope → List ℕ → Values → Values
keep_headed lim (Some x) f fs t values = values
keep_headed lim None f fs t values = if is_whole (layout f.syntax) t then keep_header lim f fs (header_at (layout f.syntax) t) values else values

abbrev pub keep_read : Limits → List Scope → ℕ → Values → ℕ → Values
keep_read lim fs t values x = if wanted_at lim fs t then with_byte values x else values

abbrev pub keep_by : Limits → Scope → List Scope → Mode → Values → ℕ → Values
keep_by lim f fs (Heading start t) values x = keep_headed lim (broken lim (spot_of f fs start) (t ++ x ∷ [])) f fs (t ++ x ∷ []) values
keep_by lim f fs (Reading t n) values x = keep_read lim fs (number t) values x
keep_by lim f fs (Stopped n offset t) values x = values

-- the values after one more byte of the data set
abbrev pub keep : Limits → State → Values → ℕ → Values
keep lim st values x = keep_by lim st.top st.below st.mode values x

unfoldable pub keeps : Limits → State → Values → List ℕ → Values
keeps lim st values [] = values
keeps lim st values (x ∷ xs) = keeps lim (next lim st x) (keep lim st values x) xs

-- the values without the last one, if that is unfinished
abbrev pub whole_by : Limits → List Scope → Mode → Values → Values
whole_by lim fs (Heading start t) values = values
whole_by lim fs (Reading t n) values = if wanted_at lim fs (number t) then but_last values else values
whole_by lim fs (Stopped n offset t) values = values

-- ---- the lengths of the wanted values, in the order of their tags

-- the sum of these lengths, without those of absent values
abbrev pub counts : List Want → List ℕ → ℕ
counts [] lengths = 0
counts (w ∷ ws) [] = 0
counts (w ∷ ws) (n ∷ lengths) = if is_absent n then counts ws lengths else (n + counts ws lengths)

-- each value that is there is no longer than its limit, and its tag is at most `last`
abbrev pub are_stored : List Want → List ℕ → ℕ → Bool
are_stored [] lengths last = true
are_stored (w ∷ ws) [] last = true
are_stored (w ∷ ws) (n ∷ lengths) last = (is_absent n || (nat_le n w.room && nat_le (number w.tag) last)) && are_stored ws lengths last

abbrev pub all_absent : List Want → List ℕ → Bool
all_absent [] lengths = true
all_absent (w ∷ ws) [] = true
all_absent (w ∷ ws) (n ∷ lengths) = is_absent n && all_absent ws lengths

-- no value after the one with index i is there
abbrev pub is_latest : ℕ → List Want → List ℕ → Bool
is_latest i [] lengths = true
is_latest i (w ∷ ws) [] = true
is_latest zero (w ∷ ws) (n ∷ lengths) = all_absent ws lengths
is_latest (suc i) (w ∷ ws) (n ∷ lengths) = is_latest i ws lengths

-- how many more bytes the value with index i may have, by its limit
abbrev pub remaining_at : ℕ → List Want → List ℕ → ℕ
remaining_at i [] lengths = 0
remaining_at i (w ∷ ws) [] = 0
remaining_at zero (w ∷ ws) (n ∷ lengths) = if is_absent n then 0 else w.room - n
remaining_at (suc i) (w ∷ ws) (n ∷ lengths) = remaining_at i ws lengths

-- the index of the first wanted tag with this number, where the first index is k
abbrev pub offset_from : ℕ → List Want → ℕ → Option ℕ
offset_from k [] t = None
offset_from k (w ∷ ws) t = if nat_eq (number w.tag) t then Some k else offset_from (k + 1) ws t
