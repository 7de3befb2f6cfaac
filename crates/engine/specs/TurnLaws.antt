-- Statements by which a caller of `Association::take_next` gets the contract of `run`.
use Rattle.std.specs.Prelude.{◌≡◌, ◌≢◌, ℕ, ◌+◌, ◌<◌, ◌≤◌, Bool, true, false, List, []}
use Rattle.acceptor.specs.declared.state.State.TheVariants.{Sta1}
use Rattle.negotiate.specs.Settings.{Settings}
use Rattle.part10.specs.Store.{Store, stepped, without_draft}
use Rattle.engine.specs.declared.report.Report.{Report}
use Rattle.engine.specs.Devices.{Devices}
use Rattle.engine.specs.Held.{is_ended}
use Rattle.engine.specs.Inputs.{Received, Supply}
use Rattle.engine.specs.Ran.{Ran}
use Rattle.engine.specs.Run.{Rooms}
use Rattle.engine.specs.Stands.{Stands, drafting}
use Rattle.engine.specs.Timeline.{Happened}
use Rattle.engine.specs.Turns.{ConsumedTurns, ConsumedInput, Reports}
use Rattle.engine.specs.FrameFields.{Fields}

-- a new association has had no turn (call of `Association::take_next`)
abbrev pub TurnsBegin : Type 0
TurnsBegin = (rooms : Rooms) (s : Settings) (seen : Fields) (source : Supply) (d : Devices) → Stands rooms s [] [] false seen d.store → ConsumedTurns rooms s 0 source source seen d d

-- after `turns` turns of an association that has not ended, one more makes `turns + 1`
abbrev pub OneTurnMore : Type 0
OneTurnMore =
    (rooms : Rooms) (s : Settings) (turns : ℕ) (source now next : Supply) (seen seen_new : Fields) (old mid new : Devices)
    → seen.kept.state ≢ Sta1 → ConsumedTurns rooms s turns source now seen old mid → ConsumedInput rooms s now next seen seen_new mid new
    → ConsumedTurns rooms s (turns + 1) source next seen_new old new

-- A given number of turns, or fewer if the association ends before, have the effect of a run: its report is that of
-- the association, and the draft, if there is one, is dropped.
abbrev pub TurnsAreARun : Type 0
TurnsAreARun =
    (rooms : Rooms) (s : Settings) (turns most : ℕ) (source now : Supply) (seen : Fields) (old mid new : Devices) (report : Report)
    → ConsumedTurns rooms s turns source now seen old mid → turns ≤ most → (turns < most → seen.kept.state ≡ Sta1)
    → Reports rooms s seen mid.store report → new.line ≡ mid.line → new.store ≡ stepped without_draft false mid.store
    → Ran rooms s most report source now old new

-- an association that has ended has no draft in the filing
abbrev pub EndedHasNoDraft : Type 0
EndedHasNoDraft =
    (rooms : Rooms) (s : Settings) (inputs : List Received) (story : List Happened) (failed : Bool) (seen : Fields) (store : Store)
    → Stands rooms s inputs story failed seen store → is_ended seen.kept.state ≡ true → drafting seen ≡ false
