-- A walker that refused has consumed any bytes that come after (`refused_stands`). Stands on FaultStays and StepConsumes.
use Rattle.std.proofs.Common.{◌≡◌, List, ◌++◌, ℕ, Some}
use Rattle.element.specs.Numbers.{IsBytes}
use Rattle.sequence.specs.declared.coding.Coding.{Coding}
use Rattle.sequence.specs.declared.fault.Fault.{Fault}
use Rattle.sequence.specs.Rules.{Limits}
use Rattle.sequence.specs.Laws.{RefusedStands}
use Rattle.sequence.specs.Walk.{Report, Reports, going, refused}
use Rattle.sequence.specs.Holding.{Holding, Holds, of_all, before_fault}
use Rattle.sequence.specs.Consumed.{walker_syntax, limits_of, reported_by, holding_by}
use Rattle.sequence.proofs.StepsStand.FaultStays.{fault_stays, refusal_stays}
use Rattle.sequence.proofs.StepsStand.StepConsumes.{both_bytes}

-- what is held after a refusal is held for good
holds_stay : (s : Coding) (lim : Limits) (b more : List ℕ) (reported : Report) (fault : Fault) (held : Holding) → IsBytes (b ++ more) → reported.fault ≡ Some fault → Reports s lim b reported → Holds s lim b held → Holds s lim (b ++ more) held
holds_stay s lim b more reported fault held bytes e (going ok o) holds = absurd cc
holds_stay s lim b more reported fault held bytes e (refused {p = p} {u = u} {rule = rule} {tag = tag} f o) (of_all ok front) = absurd (ok p u f.rest rule tag f.text f.breaks)
holds_stay s lim b more reported fault held bytes e (refused f o) (before_fault {p = p} {u = u} {rule = rule} {tag = tag} g front) = before_fault (fault_stays s lim b more p u rule tag bytes g) front

-- a walker that refused has consumed any bytes more
pub refused_stands : RefusedStands
refused_stands V D w b more fault e bytes k =
    let all : IsBytes (b ++ more) = both_bytes b more k.bytes bytes in
    record {
      bytes = all;
      reports = refusal_stays (walker_syntax w) (limits_of w) b more (reported_by w) fault all e k.reports;
      holds = holds_stay (walker_syntax w) (limits_of w) b more (reported_by w) fault (holding_by w) all e k.reports k.holds;
    }
