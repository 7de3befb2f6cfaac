-- The effect of a call that sends, in each state of the timeline that the fields can be those of.
use Rattle.std.specs.Prelude.{◌≡◌, ℕ, true, false, List, []}
use Rattle.negotiate.specs.Settings.{Settings}
use Rattle.engine.specs.Progress.{Progress, Advance, is_due}
use Rattle.engine.specs.Devices.{Devices}
use Rattle.engine.specs.Requests.{at_request}
use Rattle.engine.specs.Kept.{Kept, Pends}
use Rattle.engine.specs.machine.PerformsReaction.{PerformsReaction}

-- the call performs the effect `due p` in the state p
abbrev pub TriesDue : (Progress → Advance) → Kept → Kept → Devices → Devices → Type 0
TriesDue due old new d e = (p : Progress) (body started : List ℕ) → Pends old d.store p body started → PerformsReaction p (due p) new body started d e

-- the call performs the effect of a whole association request, which was awaited
abbrev pub TriesRequest : Settings → Kept → Kept → Devices → Devices → Type 0
TriesRequest s old new d e = (p : Progress) (body : List ℕ) → Pends old d.store p body [] → p.refused ≡ false → is_due p.state ≡ true → PerformsReaction p (at_request s p body) new body [] d e
