-- How many bytes of an unfinished header or value remain, by the stage of a walker.
use Rattle.std.specs.Prelude.{ℕ, Bool, true, false, ◌&&◌, List, length, nat_eq, Option, Some, None}
use Rattle.element.specs.declared.tag.Tag.{Tag}
use Rattle.element.specs.Header.{number}
use Rattle.sequence.specs.declared.level.Level.{Level}
use Rattle.sequence.specs.declared.wanted.Want.{Want}
use Rattle.sequence.specs.declared.stage.Stage.{Stage}
use Rattle.sequence.specs.declared.stage.Stage.TheVariants.{Heading, Value, Stopped}
use Rattle.sequence.specs.Wanted.{is_wanted}

-- the number of bytes that the unfinished value still lacks
abbrev pub owed : Stage → ℕ
owed Heading = 0
owed (Value tag remaining kept) = remaining
owed (Stopped fault) = 0

-- how many bytes the position may be above the limit of the data set: those of an unfinished header, or 12 after a
-- fault
abbrev pub spare : Stage → ℕ → ℕ
spare Heading n = n
spare (Value tag remaining kept) n = 0
spare (Stopped fault) n = 12

-- the stage at a position where a header follows, or after the rule that is broken there
abbrev pub stage_by : Option (ℕ × Tag) → ℕ → Stage
stage_by None offset = Heading
stage_by (Some x) offset = Stopped (record { number = x.0; offset = offset; tag = x.1 })

-- the greatest number of held bytes of an unfinished header
abbrev pub head_room : Stage → ℕ
head_room Heading = 11
head_room (Value tag remaining kept) = 0
head_room (Stopped fault) = 0

-- the number of bytes that the unfinished value lacks, which must not be 0; outside values 1
abbrev pub due_of : Stage → ℕ
due_of Heading = 1
due_of (Value tag remaining kept) = remaining
due_of (Stopped fault) = 1

-- the number of bytes that the unfinished value lacks, if it is kept
abbrev pub due_kept : Stage → ℕ
due_kept Heading = 0
due_kept (Value tag remaining true) = remaining
due_kept (Value tag remaining false) = 0
due_kept (Stopped fault) = 0

-- whether the value is that of a wanted tag of the data set itself
abbrev pub is_wanted_in : List Want → List Level → Stage → Bool
is_wanted_in ws levels Heading = false
is_wanted_in ws levels (Value tag remaining kept) = nat_eq (length levels) 0 && is_wanted ws (number tag)
is_wanted_in ws levels (Stopped fault) = false
