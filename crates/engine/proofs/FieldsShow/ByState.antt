-- What holds in Sta1 and Sta13 holds wherever an association is left (`by_remaining`); a request is due in Sta2 (`due_is`), and an
-- association is established in Sta6 (`established_is`). Stands on the definitions alone.
use Rattle.std.proofs.Common.{◌≡◌, true, arith}
use Rattle.std.proofs.lemmas.Grind.{common_steps}
use Rattle.acceptor.specs.declared.state.State.{State}
use Rattle.acceptor.specs.declared.state.State.TheVariants.{Sta1, Sta2, Sta6, Sta13}
use Rattle.engine.specs.Held.{is_ended}
use Rattle.engine.specs.Progress.{is_due, is_established}
use Rattle.engine.specs.machine.PerformsReaction.{is_remaining}

-- what holds in Sta1 and Sta13 holds where the association is left
pub by_remaining : (P : State → Type 0) → P Sta1 → P Sta13 → (st : State) → is_remaining st ≡ true → P st
by_remaining P h k st e = grind (arith, common_steps)

pub ended_is : (st : State) → is_ended st ≡ true → st ≡ Sta1
ended_is st e = grind arith

pub due_is : (st : State) → is_due st ≡ true → st ≡ Sta2
due_is st e = grind arith

pub established_is : (st : State) → is_established st ≡ true → Sta6 ≡ st
established_is st e = grind arith
