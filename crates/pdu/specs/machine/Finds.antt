-- The result of a part of a deframer's call: an event with the position after it, or the position `stays` without
-- one.
use Rattle.std.specs.Prelude.{ℕ, List, Option, Some, None}
use Rattle.pdu.specs.declared.position.Position.{Position}
use Rattle.pdu.specs.declared.event.Event.{Event}
use Rattle.pdu.specs.Marks.{Mark}
use Rattle.pdu.specs.Deframing.{Consumed, Skipped}
use Rattle.pdu.specs.Steps.{Steps}

abbrev pub Finds : Position → List ℕ → List Mark → List ℕ → Option (Position × Event) → Type 0
Finds stays r due consumed None = Consumed stays r due consumed None
Finds stays r due consumed (Some (new, e)) = Consumed new r due consumed (Some e)

abbrev pub FindsEnd : Position → List ℕ → List ℕ → Option (Position × Event) → Type 0
FindsEnd stays r consumed None = Skipped stays r consumed None
FindsEnd stays r consumed (Some (new, e)) = Skipped new r consumed (Some e)

abbrev pub StepsTo : Position → Position → ℕ → List ℕ → Option (Position × Event) → Type 0
StepsTo old stays n consumed None = Steps old n consumed None stays
StepsTo old stays n consumed (Some (new, e)) = Steps old n consumed (Some e) new
