-- What a connection leaves is of inputs each of which was due (`ends_timed`). Stands on ConsumedInputsAreARun.
use Rattle.std.proofs.Common.{◌≡◌, ℕ, false, List, ◌++◌, sym, subst}
use Rattle.negotiate.specs.Settings.{Settings}
use Rattle.part10.specs.Store.{Store, stepped, without_draft}
use Rattle.engine.specs.declared.source.Input.{Input}
use Rattle.engine.specs.declared.report.Report.{Report}
use Rattle.engine.specs.FrameFields.{Fields}
use Rattle.engine.specs.Inputs.{Received, inputs_of, stream_of}
use Rattle.engine.specs.Turns.{Reports}
use Rattle.serving.proofs.ConsumedInputsAreARun.{ends}
use Rattle.serving.specs.Closes.{ClosesWithSocket}
use Rattle.serving.specs.Rooms.{served_rooms}
use Rattle.serving.specs.Served.{ExchangedSoFar}
use Rattle.serving.specs.Consumed.{HasConsumed}
use Rattle.serving.specs.Timed.{Timed}
use Rattle.serving.specs.TimeLimits.{TimeLimits}
use Rattle.serving.specs.declared.moment.Moment.{Moment}

pub ends_timed : (s : Settings) (named : List (Input × List ℕ)) (seen : Fields) (report : Report) (read unconsumed : List ℕ) (stopped : ℕ) (socket unsent : List ℕ) (refusals : ℕ) (opened old new : Store) (initial : TimeLimits) (moments : List Moment) (now : TimeLimits)
    → stream_of (inputs_of named) ++ unconsumed ≡ read
    → ClosesWithSocket (inputs_of named) unconsumed stopped unsent refusals → Reports served_rooms s seen old report → new ≡ stepped without_draft false old → HasConsumed s named seen (socket ++ unsent) opened old → Timed initial (inputs_of named) moments now
    → (served : ExchangedSoFar s report read unconsumed stopped socket unsent refusals opened new) × (last : TimeLimits) × Timed initial served.inputs moments last
ends_timed s named seen report read unconsumed stopped socket unsent refusals opened old new initial moments now e closes reports store h timed =
    let x = ends s named seen report read unconsumed stopped socket unsent refusals opened old new e closes reports store h in
    (x.0, now, subst (λ (xs : List Received). Timed initial xs moments now) (sym x.1) timed)
