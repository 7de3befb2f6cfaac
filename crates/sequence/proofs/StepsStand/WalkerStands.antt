-- A walker whose fields are the machine's after some bytes stands at these bytes (`walker_stands`). Stands on CodeIsMachine
-- and MachineReports.
use Rattle.std.proofs.Common.{◌≡◌, ℕ, ◌+◌, ◌-◌, ◌*◌, ◌≤◌, List, [], ◌∷◌, ◌++◌, length, Some, None, refl, sym, ap, subst, ◌∙◌, arith, lit<, append-nil, if◌then◌else◌}
use Rattle.sequence.specs.declared.coding.Coding.{Coding}
use Rattle.element.specs.Header.{number}
use Rattle.sequence.specs.declared.level.Scope.{Scope}
use Rattle.sequence.specs.declared.level.Level.{Level}
use Rattle.sequence.specs.declared.stage.Stage.{Stage}
use Rattle.sequence.specs.declared.stage.Stage.TheVariants as stages
use Rattle.sequence.specs.declared.walker.Walker.{Walker}
use Rattle.sequence.specs.Wanted.{Values, size_of_values}
use Rattle.sequence.specs.Rules.{Limits}
use Rattle.sequence.specs.Walk.{Report, Reports}
use Rattle.sequence.specs.machine.Machine.{set_scope, State, at, Heading, next, run, start}
use Rattle.sequence.specs.machine.Scopes.{top_of, below_of}
use Rattle.sequence.specs.machine.Keeping.{keep, keeps, wanted_at}
use Rattle.sequence.specs.Fields.{but_last, reported_values, is_kept}
use Rattle.sequence.specs.Stored.{values_of}
use Rattle.sequence.specs.machine.Spare.{head_room, is_wanted_in}
use Rattle.sequence.specs.machine.State.{mode_of, state_of, IsSameWalk, limits_of, walker_syntax, fault_by, StandsAt}
use Rattle.sequence.specs.machine.Standing.{IsBytes}
use Rattle.sequence.proofs.CodeIsMachine.InnermostLevel.{below_length}
use Rattle.sequence.proofs.CodeIsMachine.StateAfterCall.{wanted_is}
use Rattle.sequence.specs.machine.Reported.{reported_in}
use Rattle.sequence.proofs.MachineReports.AnyText.{reports}
use Rattle.sequence.proofs.MachineReports.HeldIsState.{walker_holds}

abbrev reported_of : Stage → List Level → ℕ → List ℕ → Values → Report
reported_of stage levels offset header values = record {
  fault = fault_by stage;
  levels = length levels;
  offset = offset;
  held = length header + size_of_values values + 16 * length levels;
  kept = reported_values (is_kept stage) values;
}

reported_is : (lim : Limits) (root : Scope) (levels : List Level) (stage : Stage) (offset : ℕ) (header : List ℕ) (values : Values) → length header ≤ head_room stage → is_kept stage ≡ is_wanted_in lim.wanted levels stage
    → reported_of stage levels offset header values ≡ reported_in lim (at (top_of root levels) (below_of root [] levels) offset (mode_of stage offset header)) values
reported_is lim root levels stages.Heading offset header values few flag =
    let same : length levels ≡ length (below_of root [] levels) = omega (arith, below_length root [] levels) in
    λ i. record { fault = None; levels = same i; offset = offset; held = length header + size_of_values values + 16 * same i; kept = values }
reported_is lim root levels (stages.Value tag remaining kept) offset header values few flag =
    let same : length levels ≡ length (below_of root [] levels) = omega (arith, below_length root [] levels) in
    let none : length header ≡ 0 = omega (arith, few) in
    let wanted : kept ≡ wanted_at lim (below_of root [] levels) (number tag) = flag ∙ wanted_is lim root levels (number tag) in
    λ i. record { fault = None; levels = same i; offset = offset; held = none i + size_of_values values + 16 * same i; kept = if wanted i then but_last values else values }
reported_is lim root levels (stages.Stopped fault) offset header values few flag =
    let same : length levels ≡ length (below_of root [] levels) = omega (arith, below_length root [] levels) in
    let none : length header ≡ 0 = omega (arith, few) in
    λ i. record { fault = Some fault; levels = same i; offset = offset; held = none i + size_of_values values + 16 * same i; kept = values }

pub walker_stands : {V D : ℕ} (w : Walker V D) (b : List ℕ) → IsBytes b → state_of w ≡ run (limits_of w) (start (walker_syntax w)) b → values_of w.kept ≡ keeps (limits_of w) (start (walker_syntax w)) [] b → StandsAt w b
walker_stands w b bytes state values =
    let reported = subst (Reports (walker_syntax w) (limits_of w) b)
    (sym (reported_is (limits_of w) w.root w.levels.items w.stage w.offset w.header.items (values_of w.kept) w.few w.flag
    ∙ ap (λ z. reported_in (limits_of w) z (values_of w.kept)) state
    ∙ ap (λ z. reported_in (limits_of w) (run (limits_of w) (start (walker_syntax w)) b) z) values))
    (reports (walker_syntax w) (limits_of w) b bytes) in
    record { bytes = bytes; reports = reported; holds = walker_holds w b (record { bytes = bytes; state = state; values = values }) }

pub no_bytes : IsBytes []
no_bytes i = lit< tt

pub keeps_append : (lim : Limits) (st : State) (values : Values) (a b : List ℕ) → keeps lim st values (a ++ b) ≡ keeps lim (run lim st a) (keeps lim st values a) b
unfolding keeps run
keeps_append lim st values [] b = refl
keeps_append lim st values (x ∷ a) b = keeps_append lim (next lim st x) (keep lim st values x) a b

pub same_limits : {V D : ℕ} (old new : Walker V D) → IsSameWalk old new → limits_of new ≡ limits_of old
same_limits {D = D} old new same = λ i. record { wanted = same.wanted i; depth = D; bytes = same.limit i }

pub none_stands : {V D : ℕ} (w : Walker V D) (b : List ℕ) → StandsAt w b → StandsAt w (b ++ [])
none_stands w b h = subst (StandsAt w) (sym (append-nil b)) h

pub new_stands : {V D : ℕ} (w : Walker V D) → state_of w ≡ start (walker_syntax w) → values_of w.kept ≡ [] → StandsAt w []
unfolding run keeps
new_stands w state values = walker_stands w [] no_bytes state values

pub new_state : (s : Coding) (levels : List Level) (header : List ℕ) → header ≡ [] → levels ≡ [] → at (top_of (set_scope s None 0) levels) (below_of (set_scope s None 0) [] levels) 0 (Heading (0 - length header) header) ≡ start s
new_state s levels header h l = rw (h, l) refl
