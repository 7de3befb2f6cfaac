-- A step returns a fault that is the first one (`stopped_first`, `stopped_answers`), and of a header its kind
-- (`reported_by_tag`). Stands on GrammarLeads/TreesRun and MachineReports.
use Rattle.std.proofs.Common.{◌≡◌, ℕ, ◌<◌, ◌≤◌, Bool, true, false, not, List, [], ◌++◌, length, refl, sym, ap, subst, ◌∙◌, if◌then◌else◌}
use Rattle.sequence.specs.declared.coding.Coding.{Coding}
use Rattle.element.specs.declared.tag.Tag.{Tag}
use Rattle.element.specs.declared.header.Header.{Header}
use Rattle.element.specs.Header.{is_marker, item_tag}
use Rattle.sequence.specs.declared.fault.Fault.{Fault}
use Rattle.sequence.specs.declared.stage.Stage.{Stage}
use Rattle.sequence.specs.declared.stage.Stage.TheVariants as stages
use Rattle.sequence.specs.declared.step.Step.TheVariants.{Element, Opened, Closed, Refused}
use Rattle.sequence.specs.declared.walker.Walker.{Walker}
use Rattle.sequence.specs.Rules.{Limits, same_tag}
use Rattle.sequence.specs.FirstFault.{IsUnbroken, FirstFault}
use Rattle.sequence.specs.Answering.{EndsHeader, EndsPart, Answers, stays, element, opened, closed}
use Rattle.sequence.specs.machine.Machine.{State, at, Stopped, run, start}
use Rattle.sequence.specs.machine.Scopes.{top_of, below_of}
use Rattle.sequence.specs.machine.Keeping.{keeps}
use Rattle.sequence.specs.machine.State.{mode_of, limits_of, walker_syntax}
use Rattle.sequence.specs.machine.Standing.{IsStopped, Stands}
use Rattle.sequence.proofs.GrammarLeads.TreesRun.{HasStopped}
use Rattle.sequence.proofs.MachineReports.HeldIsState.{Walks}
use Rattle.sequence.proofs.MachineReports.AnyText.{stands, goes_unbroken, stop_first, heading_front}

-- the fault is the first one of the text c
pub record HasFault (s : Coding) (lim : Limits) (c : List ℕ) (fault : Fault) : Type 0 where
  pub before : List ℕ
  pub bytes : List ℕ
  pub first : FirstFault s lim c before bytes fault.number fault.tag
  pub offset : fault.offset ≡ length before

-- of a walker, by its stage

module _ {V D : ℕ} (w : Walker V D) (c : List ℕ) (h : Walks w c) where
  pub stopped_first : (fault : Fault) → w.stage ≡ stages.Stopped fault → HasFault (walker_syntax w) (limits_of w) c fault
  stopped_first fault e =
      let lim = limits_of w in
      let s = walker_syntax w in
      let f = top_of w.root w.levels.items in
      let fs = below_of w.root [] w.levels.items in
      let state : run lim (start s) c ≡ at f fs w.offset (Stopped fault.number fault.offset fault.tag) = sym h.state ∙ ap (λ z. at f fs w.offset (mode_of z w.offset w.header.items)) e in
      let k : IsStopped s lim (keeps lim (start s) [] c) f fs w.offset fault.number fault.offset fault.tag c = subst (λ z. Stands s lim z (keeps lim (start s) [] c) c) state (stands s lim c h.bytes) in
      let first = stop_first s lim (keeps lim (start s) [] c) f fs w.offset fault.number fault.offset fault.tag c h.bytes state k in
      record { before = k.before; bytes = k.u; first = first; offset = k.offset-is }

  -- a step on a walker that has stopped
  pub stopped_answers : (piece : List ℕ) (fault : Fault) → w.stage ≡ stages.Stopped fault → Answers (walker_syntax w) (limits_of w) c piece [] (Refused fault)
  stopped_answers piece fault e =
      let k = stopped_first fault e in
      subst (λ n. Answers (walker_syntax w) (limits_of w) c piece [] (Refused (record { number = fault.number; offset = n; tag = fault.tag }))) (sym k.offset) (stays k.first refl)

  pub heading_unbroken : w.stage ≡ stages.Heading → IsUnbroken (walker_syntax w) (limits_of w) c
  heading_unbroken e = goes_unbroken (walker_syntax w) (limits_of w) c (λ k. subst (λ (z : Stage). HasStopped (mode_of z w.offset w.header.items)) e (subst (λ (z : State). HasStopped z.mode) (sym h.state) k))

  pub value_unbroken : (tag : Tag) (remaining : ℕ) (kept : Bool) → w.stage ≡ stages.Value tag remaining kept → IsUnbroken (walker_syntax w) (limits_of w) c
  value_unbroken tag remaining kept e = goes_unbroken (walker_syntax w) (limits_of w) c (λ k. subst (λ (z : Stage). HasStopped (mode_of z w.offset w.header.items)) e (subst (λ (z : State). HasStopped z.mode) (sym h.state) k))

  pub heading_part : (consumed : List ℕ) → 0 < length consumed → length consumed ≤ length w.header.items → w.stage ≡ stages.Heading → EndsPart (walker_syntax w) c consumed
  heading_part consumed some own e =
      let lim = limits_of w in
      let s = walker_syntax w in
      let f = top_of w.root w.levels.items in
      let fs = below_of w.root [] w.levels.items in
      let state : run lim (start s) c ≡ at f fs w.offset (mode_of stages.Heading w.offset w.header.items) = sym h.state ∙ ap (λ z. at f fs w.offset (mode_of z w.offset w.header.items)) e in
      let k = subst (λ z. Stands s lim z (keeps lim (start s) [] c) c) state (stands s lim c h.bytes) in
      let x = heading_front s lim (keeps lim (start s) [] c) f fs _ w.header.items c k.1 in
      record { elements = x.elements; path = x.path; last = x.last; started = w.header.items; front = x.front; some = some; own = own }

pub reported_by_tag : (s : Coding) (lim : Limits) (b piece consumed : List ℕ) (hd : Header) (m i : Bool) → is_marker hd.tag ≡ m → same_tag hd.tag item_tag ≡ i → IsUnbroken s lim (b ++ consumed) → EndsHeader s (b ++ consumed) consumed hd → Answers s lim b piece consumed (if not m then Element hd else (if i then Opened hd else Closed hd))
reported_by_tag s lim b piece consumed hd false i m-is i-is ok ends = element ok ends m-is
reported_by_tag s lim b piece consumed hd true true m-is i-is ok ends = opened ok ends m-is i-is
reported_by_tag s lim b piece consumed hd true false m-is i-is ok ends = closed ok ends m-is i-is
