-- A step that consumes some bytes stands after them (`consumed_stands`), returns what there is to return (`heading_answered`,
-- `value_answered`), and consumes as much as can be consumed at once (`heading_most`, `value_most`). Stands on StepReports,
-- WalkerStands, CodeIsMachine, GrammarLeads/TreesRun, MachineReports, MachineStands/HeaderParts and the laws of `element`.
use Rattle.std.proofs.Common.{◌≡◌, ℕ, zero, suc, ◌+◌, ◌-◌, ◌<◌, ◌≤◌, Bool, true, false, not, List, [], ◌∷◌, ◌++◌, length, min, take, drop, if◌then◌else◌, Option, Some, None, nat_le, nat_eq, eqb-true, false-eqb, ◌⊎◌, inl, inr, leb-true, leb-false, refl, sym, ap, subst, ◌∙◌, arith, append_assoc, append-nil, length-append}
use Rattle.std.proofs.lemmas.List.{take-append-drop, take_all, length-take, length-take-le}
use Rattle.sequence.specs.Coding.{layout}
use Rattle.sequence.specs.declared.coding.Coding.{Coding}
use Rattle.element.specs.declared.tag.Tag.{Tag}
use Rattle.element.specs.declared.header.Header.{Header}
use Rattle.element.specs.Header.{is_marker, is_whole, header_at, SpellsHeader, item_tag}
use Rattle.element.proofs.Public.{whole_spelled, front_spelled}
use Rattle.sequence.specs.declared.level.Scope.{Scope}
use Rattle.sequence.specs.declared.spot.Spot.{Spot}
use Rattle.sequence.specs.declared.stage.Stage.{Stage}
use Rattle.sequence.specs.declared.stage.Stage.TheVariants as stages
use Rattle.sequence.specs.declared.step.Step.{Step}
use Rattle.sequence.specs.declared.step.Step.TheVariants.{More, Element, Opened, Closed, Refused}
use Rattle.sequence.specs.declared.walker.Walker.{Walker}
use Rattle.sequence.specs.declared.fault.Fault.{Fault}
use Rattle.sequence.specs.Tree.{Elements}
use Rattle.sequence.specs.Open.{PathEntry, in_header, in_value, IsUnfinishedHeader, Open}
use Rattle.sequence.specs.Rules.{Limits, same_tag}
use Rattle.sequence.specs.FirstFault.{spot_behind, IsUnbroken, FirstFault}
use Rattle.sequence.specs.Answering.{EndsHeader, EndsRun, EndsWith, of_header, of_value, RefusesAt, in_header_of_fault, at_end, Answers, no_piece, continues, runs, refuses}
use Rattle.sequence.specs.Walk.{Report, Reports, going, refused}
use Rattle.sequence.specs.machine.Machine.{State, at, ArrivesAt, Reading, run, start}
use Rattle.sequence.specs.machine.Keeping.{keeps}
use Rattle.sequence.specs.Holding.{levels_at}
use Rattle.sequence.specs.machine.Holding.{IsIn}
use Rattle.sequence.specs.machine.Spare.{due_of}
use Rattle.sequence.specs.machine.Made.{header_reported, value_reported}
use Rattle.sequence.specs.machine.State.{mode_of, state_of, kept_values, top, below, IsSameWalk, limits_of, walker_syntax, fault_by, fault_of, reported_by, StandsAt}
use Rattle.sequence.specs.machine.Standing.{IsBytes, IsHeading, IsReading, Stands}
use Rattle.sequence.specs.Pieces.{ConsumesMost}
use Rattle.sequence.specs.machine.Steps.{IsMade, IsConsumed}
use Rattle.sequence.proofs.GrammarLeads.TreesRun.{run_append}
use Rattle.sequence.proofs.CodeIsMachine.SplitHeader.{no_items}
use Rattle.sequence.proofs.CodeIsMachine.ValueBytes.{value_part_arrives}
use Rattle.sequence.proofs.MachineStands.HeaderParts.{whole_spells, unfinished_front}
use Rattle.sequence.proofs.MachineReports.FrontAtText.{open_due, due_open}
use Rattle.sequence.proofs.MachineReports.AnyText.{stands, front_bytes, spot_is, reading_front}
use Rattle.sequence.proofs.MachineReports.HeldIsState.{Walks, walks, stands_going, reports_going, reports_refused}
use Rattle.sequence.proofs.StepsStand.WalkerStands.{walker_stands, same_limits, keeps_append}
use Rattle.sequence.proofs.StepsStand.StepReports.{stopped_first, heading_unbroken, value_unbroken, heading_part, reported_by_tag}

-- bytes

pub both_bytes : (a b : List ℕ) → IsBytes a → IsBytes b → IsBytes (a ++ b)
both_bytes [] b h k i = k i
both_bytes (x ∷ a) b h k zero = h zero
both_bytes (x ∷ a) b h k (suc i) = both_bytes a b (λ j. h (suc j)) k i

pub some_bytes : (n : ℕ) (piece : List ℕ) → IsBytes piece → IsBytes (take n piece)
some_bytes n piece h = front_bytes (take n piece) (drop n piece) (subst IsBytes (sym (take-append-drop n piece)) h)

-- the walker stands after them

pub consumed_stands : {V D : ℕ} (old new : Walker V D) (b consumed : List ℕ) → StandsAt old b → state_of new ≡ run (limits_of old) (state_of old) consumed → kept_values new ≡ keeps (limits_of old) (state_of old) (kept_values old) consumed → IsSameWalk old new → IsBytes consumed → StandsAt new (b ++ consumed)
consumed_stands old new b consumed h state values same bytes =
    let m = walks old b h in
    let lim = same_limits old new same in
    let now : state_of new ≡ run (limits_of old) (start (walker_syntax old)) (b ++ consumed) =
    state ∙ ap (λ z. run (limits_of old) z consumed) m.state ∙ sym (run_append (limits_of old) (start (walker_syntax old)) b consumed) in
    let kept : kept_values new ≡ keeps (limits_of old) (start (walker_syntax old)) [] (b ++ consumed) =
    values ∙ ap (λ z. keeps (limits_of old) z (kept_values old) consumed) m.state ∙ ap (λ z. keeps (limits_of old) (run (limits_of old) (start (walker_syntax old)) b) z consumed) m.values
    ∙ sym (keeps_append (limits_of old) (start (walker_syntax old)) [] b consumed) in
    walker_stands new (b ++ consumed) (both_bytes b consumed m.bytes bytes)
    (now ∙ ap (λ z. run z (start (walker_syntax old)) (b ++ consumed)) (sym lim) ∙ ap (λ z. run (limits_of new) (start z) (b ++ consumed)) (sym same.syntax))
    (kept ∙ ap (λ z. keeps z (start (walker_syntax old)) [] (b ++ consumed)) (sym lim) ∙ ap (λ z. keeps (limits_of new) (start z) [] (b ++ consumed)) (sym same.syntax))

-- a walker in a header, or in a value

module _ {V D : ℕ} (w : Walker V D) (b : List ℕ) (h : Walks w b) where
  pub in_heading : w.stage ≡ stages.Heading → IsHeading (walker_syntax w) (limits_of w) (keeps (limits_of w) (start (walker_syntax w)) [] b) (top w) (below w) (w.offset - length w.header.items) w.header.items b
  in_heading e =
      let state : run (limits_of w) (start (walker_syntax w)) b ≡ at (top w) (below w) w.offset (mode_of stages.Heading w.offset w.header.items) = sym h.state ∙ ap (λ z. at (top w) (below w) w.offset (mode_of z w.offset w.header.items)) e in
      (subst (λ z. Stands (walker_syntax w) (limits_of w) z (keeps (limits_of w) (start (walker_syntax w)) [] b) b) state (stands (walker_syntax w) (limits_of w) b h.bytes)).1

  pub in_reading : (tag : Tag) (remaining : ℕ) (kept : Bool) → w.stage ≡ stages.Value tag remaining kept → IsReading (walker_syntax w) (limits_of w) (keeps (limits_of w) (start (walker_syntax w)) [] b) (top w) (below w) tag remaining b
  in_reading tag remaining kept e =
      let state : run (limits_of w) (start (walker_syntax w)) b ≡ at (top w) (below w) w.offset (Reading tag remaining) = sym h.state ∙ ap (λ z. at (top w) (below w) w.offset (mode_of z w.offset w.header.items)) e in
      let k : (w.offset ≡ length b) × IsReading (walker_syntax w) (limits_of w) (keeps (limits_of w) (start (walker_syntax w)) [] b) (top w) (below w) tag remaining b = subst (λ z. Stands (walker_syntax w) (limits_of w) z (keeps (limits_of w) (start (walker_syntax w)) [] b) b) state (stands (walker_syntax w) (limits_of w) b h.bytes) in
      k.1

  pub made_ends : (consumed : List ℕ) (hd : Header) → w.stage ≡ stages.Heading → IsBytes consumed → IsMade (top w).syntax w.header.items consumed hd → EndsHeader (walker_syntax w) (b ++ consumed) consumed hd
  made_ends consumed hd e bytes m =
      let s = walker_syntax w in
      let lim = limits_of w in
      let values = keeps lim (start s) [] b in
      let t = w.header.items in
      let k = in_heading e in
      let text : t ++ consumed ≡ (t ++ m.front) ++ m.byte ∷ [] = ap (λ z. t ++ z) m.text ∙ sym (append_assoc t m.front (m.byte ∷ [])) in
      let sp = whole_spells (top w).syntax (t ++ m.front) m.byte m.part (subst IsBytes text (both_bytes t consumed k.bytes bytes)) (ap (is_whole (layout (top w).syntax)) (sym text) ∙ m.whole) in
      let spelled : SpellsHeader (layout (top w).syntax) hd (t ++ consumed) = subst (λ z. SpellsHeader (layout (top w).syntax) z (t ++ consumed)) m.read (subst (λ z. SpellsHeader (layout (top w).syntax) (header_at (layout (top w).syntax) z) z) (sym text) sp) in
      let front = open_due s lim values (top w) (below w) k.before k.due in
      let syntax-is : (top w).syntax ≡ (spot_behind s front.path front.last (length k.before)).syntax = ap (λ (z : Spot). z.syntax) (spot_is front) in
      record {
        before = k.before;
        bytes = t ++ consumed;
        text = ap (λ z. z ++ consumed) k.text ∙ append_assoc k.before t consumed;
        elements = front.elements;
        path = front.path;
        last = front.last;
        due = due_open s lim values (top w) (below w) k.before k.due;
        spelled = subst (λ z. SpellsHeader (layout z) hd (t ++ consumed)) syntax-is spelled;
        some = omega (arith, ap length m.text, length-append m.front (m.byte ∷ []));
        own = omega (arith, length-append t consumed);
      }

  pub run_ends : (tag : Tag) (remaining : ℕ) (kept : Bool) (consumed : List ℕ) → w.stage ≡ stages.Value tag remaining kept → 0 < length consumed → length consumed ≤ remaining → EndsRun (walker_syntax w) (b ++ consumed) consumed
  run_ends tag remaining kept consumed e some le =
      let r = in_reading tag remaining kept e in
      let x = reading_front (walker_syntax w) (limits_of w) (keeps (limits_of w) (start (walker_syntax w)) [] b) (top w) (below w) tag remaining b r in
      record { before = b; text = refl; elements = x.elements; path = x.path; last = x.last; header = r.h; value = r.v; front = x.front; some = some; within = omega (arith, r.size, le) }

-- what a step answers

none_offset : (s : Coding) (lim : Limits) (b : List ℕ) (reported : Report) → Reports s lim b reported → reported.fault ≡ None → reported.offset ≡ length b
none_offset s lim b reported (going ok o) e = refl
none_offset s lim b reported (refused f o) e = absurd cc

no_more : (c a rest : List ℕ) → c ≡ a ++ rest → length c ≡ length a → c ≡ a
no_more c a [] e n = e ∙ append-nil a
no_more c a (x ∷ rest) e n = absurd (omega (arith, ap length e, length-append a (x ∷ rest), n))

exact : {V D : ℕ} (w : Walker V D) (c p u : List ℕ) (rule : ℕ) (tag : Tag) → StandsAt w c → w.offset ≡ length c → FirstFault (walker_syntax w) (limits_of w) c p u rule tag → c ≡ p ++ u
exact w c p u rule tag h offset f =
    let reported = reports_refused (walker_syntax w) (limits_of w) c p u rule tag (reported_by w) f h.reports in
    no_more c (p ++ u) f.rest f.text (sym offset ∙ reported.offset)

moved_header : (s : Coding) (c p consumed : List ℕ) (h : Header) → c ≡ p → EndsHeader s c consumed h → EndsHeader s p consumed h
moved_header s c p consumed h e k = subst (λ z. EndsHeader s z consumed h) e k

piece_answers : {V D : ℕ} (new : Walker V D) (b t piece : List ℕ) (n : ℕ) → Walks new (b ++ take n piece) → new.stage ≡ stages.Heading → n ≡ length piece → new.header.items ≡ t ++ piece → IsUnbroken (walker_syntax new) (limits_of new) b → IsUnbroken (walker_syntax new) (limits_of new) (b ++ take n piece)
    → Answers (walker_syntax new) (limits_of new) b piece (take n piece) More
piece_answers new b t [] n k e n-is items-is before ok = no_piece before refl (take_all n [] (omega (arith, n-is)))
piece_answers new b t (x ∷ piece) n k e n-is items-is before ok =
    let all : take n (x ∷ piece) ≡ x ∷ piece = take_all n (x ∷ piece) (omega (arith, n-is)) in
    continues ok (heading_part new (b ++ take n (x ∷ piece)) k (take n (x ∷ piece)) (omega (arith, ap length all)) (omega (arith, ap length all, ap length items-is, length-append t (x ∷ piece))) e) all

module _ {V D : ℕ} (old new : Walker V D) (b piece consumed : List ℕ) (h : Walks old b) (k : Walks new (b ++ consumed)) (bytes : IsBytes consumed)
    (s-is : walker_syntax new ≡ walker_syntax old) (l-is : limits_of new ≡ limits_of old) (stands-new : StandsAt new (b ++ consumed)) (received : new.offset ≡ length (b ++ consumed)) where
  -- in the old walker's words
  as_old : (step : Step) → Answers (walker_syntax new) (limits_of new) b piece consumed step → Answers (walker_syntax old) (limits_of old) b piece consumed step
  as_old step a = subst (λ z. Answers z (limits_of old) b piece consumed step) s-is (subst (λ z. Answers (walker_syntax new) z b piece consumed step) l-is a)

  was_unbroken : IsUnbroken (walker_syntax old) (limits_of old) b → IsUnbroken (walker_syntax new) (limits_of new) b
  was_unbroken ok = subst (λ z. IsUnbroken z (limits_of new) b) (sym s-is) (subst (λ z. IsUnbroken (walker_syntax old) z b) (sym l-is) ok)

  refusal_answers : (fault : Fault) → new.stage ≡ stages.Stopped fault → IsUnbroken (walker_syntax old) (limits_of old) b → ((p u : List ℕ) → fault.offset ≡ length p → b ++ consumed ≡ p ++ u → RefusesAt (walker_syntax new) p u consumed) → Answers (walker_syntax new) (limits_of new) b piece consumed (Refused fault)
  refusal_answers fault e ok where-is =
      let f = stopped_first new (b ++ consumed) k fault e in
      let text = exact new (b ++ consumed) f.before f.bytes fault.number fault.tag stands-new received f.first in
      subst (λ n. Answers (walker_syntax new) (limits_of new) b piece consumed (Refused (record { number = fault.number; offset = n; tag = fault.tag }))) (sym f.offset)
      (refuses (was_unbroken ok) f.first text (where-is f.before f.bytes f.offset text))

  -- a fault after all that was consumed
  refused_at_end : (fault : Fault) (p u : List ℕ) → fault.offset ≡ length (b ++ consumed) → fault.offset ≡ length p → b ++ consumed ≡ p ++ u → ((q : List ℕ) → b ++ consumed ≡ q → EndsWith (walker_syntax new) q consumed) → RefusesAt (walker_syntax new) p u consumed
  refused_at_end fault p u at-end at-p text ends =
      let none : length u ≡ 0 = omega (arith, at-end, at-p, ap length text, length-append p u) in
      let nothing = no_items u none in
      at_end nothing (ends p (text ∙ ap (λ z. p ++ z) nothing ∙ append-nil p))

  made_ends_new : (hd : Header) → old.stage ≡ stages.Heading → IsMade (top old).syntax old.header.items consumed hd → EndsHeader (walker_syntax new) (b ++ consumed) consumed hd
  made_ends_new hd o m = subst (λ z. EndsHeader z (b ++ consumed) consumed hd) (sym s-is) (made_ends old b h consumed hd o bytes m)

  made_answers : (hd : Header) → IsUnbroken (walker_syntax new) (limits_of new) (b ++ consumed) → old.stage ≡ stages.Heading → IsMade (top old).syntax old.header.items consumed hd
      → Answers (walker_syntax new) (limits_of new) b piece consumed (if not (is_marker hd.tag) then Element hd else (if same_tag hd.tag item_tag then Opened hd else Closed hd))
  made_answers hd ok o m = reported_by_tag (walker_syntax new) (limits_of new) b piece consumed hd (is_marker hd.tag) (same_tag hd.tag item_tag) refl refl ok (made_ends_new hd o m)

  run_ends_new : (tag : Tag) (remaining : ℕ) (kept : Bool) → old.stage ≡ stages.Value tag remaining kept → 0 < length consumed → length consumed ≤ remaining → EndsRun (walker_syntax new) (b ++ consumed) consumed
  run_ends_new tag remaining kept o some le = subst (λ z. EndsRun z (b ++ consumed) consumed) (sym s-is) (run_ends old b h tag remaining kept consumed o some le)

  run_answers : (stage : Stage) (tag : Tag) (remaining : ℕ) (kept : Bool) (step : Step) → new.stage ≡ stage → ArrivesAt (mode_of stage new.offset new.header.items) (length (b ++ consumed)) → old.stage ≡ stages.Value tag remaining kept → 0 < length consumed → length consumed ≤ remaining → value_reported stage consumed step
      → Answers (walker_syntax new) (limits_of new) b piece consumed step
  run_answers (stages.Stopped fault) tag remaining kept step e arrives o some le t =
      subst (Answers (walker_syntax new) (limits_of new) b piece consumed) (sym t)
      (refusal_answers fault e (value_unbroken old b h tag remaining kept o) (λ p u at-p text. refused_at_end fault p u arrives at-p text (λ q same. of_value (subst (λ z. EndsRun (walker_syntax new) z consumed) same (run_ends_new tag remaining kept o some le)))))
  run_answers stages.Heading tag remaining kept step e arrives o some le t = runs (heading_unbroken new (b ++ consumed) k e) (run_ends_new tag remaining kept o some le) t
  run_answers (stages.Value u n q) tag remaining kept step e arrives o some le t = runs (value_unbroken new (b ++ consumed) k u n q e) (run_ends_new tag remaining kept o some le) t

  pub value_answered : (tag : Tag) (remaining : ℕ) (kept : Bool) (step : Step) → old.stage ≡ stages.Value tag remaining kept → state_of new ≡ run (limits_of old) (state_of old) consumed → new.offset ≡ old.offset + length consumed → 0 < length consumed → length consumed ≤ remaining → value_reported new.stage consumed step
      → Answers (walker_syntax old) (limits_of old) b piece consumed step
  value_answered tag remaining kept step o state offset some le t =
      let ends : old.offset + length consumed ≡ length (b ++ consumed) = sym offset ∙ received in
      let arrives : ArrivesAt (mode_of new.stage new.offset new.header.items) (old.offset + length consumed) = subst (λ (z : State). ArrivesAt z.mode (old.offset + length consumed)) (sym state) (value_part_arrives (top old) (below old) (limits_of old) old.offset old.stage old.header.items tag remaining kept consumed o some le) in
      as_old step (run_answers new.stage tag remaining kept step refl (subst (ArrivesAt (mode_of new.stage new.offset new.header.items)) ends arrives) o some le t)

module _ {V D : ℕ} (old new : Walker V D) (b piece : List ℕ) (n : ℕ) (h : Walks old b) (k : Walks new (b ++ take n piece)) (bytes : IsBytes (take n piece))
    (s-is : walker_syntax new ≡ walker_syntax old) (l-is : limits_of new ≡ limits_of old) (stands-old : StandsAt old b) (stands-new : StandsAt new (b ++ take n piece)) (offset : new.offset ≡ old.offset + n) (le : n ≤ length piece) (o : old.stage ≡ stages.Heading) where
  before : old.offset ≡ length b
  before = none_offset (walker_syntax old) (limits_of old) b (reported_by old) stands-old.reports (ap fault_by o)

  received_to : new.offset ≡ length (b ++ take n piece)
  received_to = omega (arith, offset, before, length-append b (take n piece), length-take-le n piece le)

  heading_by : (stage : Stage) (made : Option Header) → new.stage ≡ stage → IsConsumed (top old).syntax old.header.items piece old.offset n stage new.header.items made → Answers (walker_syntax new) (limits_of new) b piece (take n piece) (header_reported stage made)
  heading_by (stages.Stopped fault) (Some hd) e t =
      refusal_answers old new b piece (take n piece) h k bytes s-is l-is stands-new received_to fault e (heading_unbroken old b h o)
      (λ p u at-p text. refused_at_end old new b piece (take n piece) h k bytes s-is l-is stands-new received_to fault p u (t.1 ∙ sym offset ∙ received_to) at-p text
      (λ q same. of_header (subst (λ z. EndsHeader (walker_syntax new) z (take n piece) hd) same (made_ends_new old new b piece (take n piece) h k bytes s-is l-is stands-new received_to hd o t.0))))
  heading_by (stages.Stopped fault) None e t =
      refusal_answers old new b piece (take n piece) h k bytes s-is l-is stands-new received_to fault e (heading_unbroken old b h o)
      (λ p u at-p text.
      let size = length-take-le n piece le in
      in_header_of_fault (omega (arith, size, t.1)) (omega (arith, t.0, before, at-p, ap length text, length-append p u, length-append b (take n piece))))
  heading_by stages.Heading (Some hd) e t = made_answers old new b piece (take n piece) h k bytes s-is l-is stands-new received_to hd (heading_unbroken new (b ++ take n piece) k e) o t.0
  heading_by (stages.Value tag remaining kept) (Some hd) e t = made_answers old new b piece (take n piece) h k bytes s-is l-is stands-new received_to hd (value_unbroken new (b ++ take n piece) k tag remaining kept e) o t
  heading_by stages.Heading None e t =
      piece_answers new b old.header.items piece n k e t.0 t.1 (was_unbroken old new b piece (take n piece) h k bytes s-is l-is stands-new received_to (heading_unbroken old b h o)) (heading_unbroken new (b ++ take n piece) k e)
  heading_by (stages.Value tag remaining kept) None e t = absurd t

  pub heading_answered : (made : Option Header) → IsConsumed (top old).syntax old.header.items piece old.offset n new.stage new.header.items made → Answers (walker_syntax old) (limits_of old) b piece (take n piece) (header_reported new.stage made)
  heading_answered made t = as_old old new b piece (take n piece) h k bytes s-is l-is stands-new received_to (header_reported new.stage made) (heading_by new.stage made refl t)

-- how much a step consumes

syntax_at : (n m : ℕ) (path : List PathEntry) (s : Coding) (last : ℕ) (f : Scope) (fs : List Scope) → f ∷ fs ≡ levels_at n path s last → f.syntax ≡ (spot_behind s path last m).syntax
syntax_at n m [] s last f fs e = let k : f ≡ record { in_sequence = false; syntax = s; stop = None; last = last } = cc in ap (λ (z : Scope). z.syntax) k
syntax_at n m (x ∷ path) s last f fs e = let k = same_head e in ap (λ (z : Scope). z.syntax) k
  where
    same_head : {f g : Scope} {fs gs : List Scope} → f ∷ fs ≡ g ∷ gs → f ≡ g
    same_head e = cc

cases_le : (a b : ℕ) → (a ≤ b) ⊎ (b < a)
cases_le a b = by (nat_le a b) refl
  where
    by : (q : Bool) → nat_le a b ≡ q → (a ≤ b) ⊎ (b < a)
    by true e = inl (leb-true a b e)
    by false e = inr (leb-false a b e)

-- the shorter of two beginnings is the beginning of the other
front_part : (a c u v : List ℕ) → a ++ u ≡ c ++ v → length a ≤ length c → (w : List ℕ) × (c ≡ a ++ w)
front_part [] c u v e le = (c, refl)
front_part (x ∷ a) [] u v e le = absurd (omega arith)
front_part (x ∷ a) (y ∷ c) u v e le =
    let rest = front_part a c u v (let k : a ++ u ≡ c ++ v = cc in k) (omega arith) in
    (rest.0, let head : y ≡ x = cc in let tail : c ≡ a ++ rest.0 = rest.1 in cc)

-- a header that is whole in the piece is consumed to its end
module _ (s : Coding) (t piece bytes more : List ℕ) (h : Header) (text : piece ≡ bytes ++ more) (sp : SpellsHeader (layout s) h (t ++ bytes)) where
  -- a beginning that is unfinished is no longer than what comes before the header's end
  unfinished_short : (front rest : List ℕ) → IsUnfinishedHeader s (t ++ front) → piece ≡ front ++ rest → length front < length bytes
  unfinished_short front rest tail same = by (cases_le (length bytes) (length front))
    where
      by : (length bytes ≤ length front) ⊎ (length front < length bytes) → length front < length bytes
      by (inl le) =
          let p = front_part bytes front more rest (sym text ∙ same) le in
          let longer : IsUnfinishedHeader s ((t ++ bytes) ++ p.0) = subst (IsUnfinishedHeader s) (ap (λ z. t ++ z) p.1 ∙ sym (append_assoc t bytes p.0)) tail in
          let k : true ≡ false = sym (whole_spelled sp) ∙ (unfinished_front s (t ++ bytes) p.0 longer).part in
          absurd cc
      by (inr lt) = lt

  -- what is whole is no shorter than the header
  whole_long : (front rest : List ℕ) → is_whole (layout s) (t ++ front) ≡ true → piece ≡ front ++ rest → length bytes ≤ length front
  whole_long front rest w same = by (cases_le (length bytes) (length front))
    where
      shorter : (v : List ℕ) → bytes ≡ front ++ v → length front < length bytes → length bytes ≤ length front
      shorter [] e lt = absurd (omega (arith, ap length e, length-append front [], lt))
      shorter (x ∷ v) e lt =
          let spelled : SpellsHeader (layout s) h ((t ++ front) ++ x ∷ v) = subst (SpellsHeader (layout s) h) (ap (λ z. t ++ z) e ∙ sym (append_assoc t front (x ∷ v))) sp in
          let k : true ≡ false = sym w ∙ front_spelled (t ++ front) x v spelled in
          absurd cc

      by : (length bytes ≤ length front) ⊎ (length front < length bytes) → length bytes ≤ length front
      by (inl le) = le
      by (inr lt) =
          let p = front_part front bytes rest more (sym same ∙ text) (omega (arith, lt)) in
          shorter p.0 p.1 lt

  made_size : (n : ℕ) (h2 : Header) → n ≤ length piece → IsMade s t (take n piece) h2 → n ≡ length bytes
  made_size n h2 le m =
      let all : piece ≡ take n piece ++ drop n piece = sym (take-append-drop n piece) in
      let split : piece ≡ m.front ++ (m.byte ∷ drop n piece) = all ∙ ap (λ z. z ++ drop n piece) m.text ∙ append_assoc m.front (m.byte ∷ []) (drop n piece) in
      let far = whole_long (take n piece) (drop n piece) m.whole all in
      let near = unfinished_short m.front (m.byte ∷ drop n piece) m.part split in
      let size = length-take-le n piece le in
      omega (arith, far, near, size, ap length m.text, length-append m.front (m.byte ∷ []))

module _ {V D : ℕ} (old new : Walker V D) (b piece : List ℕ) (n : ℕ) (stands-old : StandsAt old b) (none : fault_of old ≡ None) (s-is : walker_syntax new ≡ walker_syntax old) (l-is : limits_of new ≡ limits_of old)
    (stands-new : StandsAt new (b ++ take n piece)) (offset : new.offset ≡ old.offset + n) (le : n ≤ length piece) where
  received : new.offset ≡ length (b ++ take n piece)
  received =
      let before : old.offset ≡ length b = none_offset (walker_syntax old) (limits_of old) b (reported_by old) stands-old.reports none in
      omega (arith, offset, before, length-append b (take n piece), length-take-le n piece le)

  on_refusal : (p u : List ℕ) (rule : ℕ) (tag : Tag) → FirstFault (walker_syntax old) (limits_of old) (b ++ take n piece) p u rule tag → b ++ take n piece ≡ p ++ u
  on_refusal p u rule tag f = exact new (b ++ take n piece) p u rule tag stands-new received (subst (λ z. FirstFault z (limits_of new) (b ++ take n piece) p u rule tag) (sym s-is) (subst (λ z. FirstFault (walker_syntax old) z (b ++ take n piece) p u rule tag) (sym l-is) f))

  not_refused : (stage : Stage) → new.stage ≡ stage → IsUnbroken (walker_syntax old) (limits_of old) (b ++ take n piece) → fault_by stage ≡ None
  not_refused stage e ok =
      let there = subst (λ z. IsUnbroken z (limits_of new) (b ++ take n piece)) (sym s-is) (subst (λ z. IsUnbroken (walker_syntax old) z (b ++ take n piece)) (sym l-is) ok) in
      ap fault_by (sym e) ∙ (reports_going (walker_syntax new) (limits_of new) (b ++ take n piece) (reported_by new) there stands-new.reports).fault

  -- of a header

  size_by : (stage : Stage) (made : Option Header) (bytes more : List ℕ) (h : Header) → fault_by stage ≡ None → IsConsumed (top old).syntax old.header.items piece old.offset n stage new.header.items made
      → piece ≡ bytes ++ more → SpellsHeader (layout (top old).syntax) h (old.header.items ++ bytes) → n ≡ length bytes
  size_by (stages.Stopped fault) made bytes more h fine t text sp = absurd cc
  size_by stages.Heading (Some h2) bytes more h fine t text sp = made_size (top old).syntax old.header.items piece bytes more h text sp n h2 le t.0
  size_by (stages.Value tag remaining kept) (Some h2) bytes more h fine t text sp = made_size (top old).syntax old.header.items piece bytes more h text sp n h2 le t
  size_by (stages.Value tag remaining kept) None bytes more h fine t text sp = absurd t
  size_by stages.Heading None bytes more h fine t text sp =
      let short = unfinished_short (top old).syntax old.header.items piece bytes more h text sp piece [] t.2 (sym (append-nil piece)) in
      absurd (omega (arith, short, ap length text, length-append bytes more))

  part_by : (stage : Stage) (made : Option Header) (started : List ℕ) → IsIn stage new.header.items (in_header started) → 0 < length started → IsConsumed (top old).syntax old.header.items piece old.offset n stage new.header.items made → n ≡ length piece
  part_by (stages.Stopped fault) made started i some t = absurd i
  part_by (stages.Value tag remaining kept) made started i some t = absurd i
  part_by stages.Heading None started i some t = t.0
  part_by stages.Heading (Some h2) started i some t = let same : started ≡ new.header.items = cc in absurd (omega (arith, some, ap length (same ∙ t.1)))

  -- the walker is in this header after what was consumed
  in_part : (es : Elements) (path : List PathEntry) (last : ℕ) (started : List ℕ) → Open (walker_syntax old) (b ++ take n piece) es path last (in_header started) → IsUnbroken (walker_syntax old) (limits_of old) (b ++ take n piece) → IsIn new.stage new.header.items (in_header started)
  in_part es path last started o ok = (stands_going new (b ++ take n piece) stands-new es path last (in_header started) (not_refused new.stage refl ok) (subst (λ z. Open z (b ++ take n piece) es path last (in_header started)) (sym s-is) o)).1

  pub heading_most : (made : Option Header) → old.stage ≡ stages.Heading → IsConsumed (top old).syntax old.header.items piece old.offset n new.stage new.header.items made → ConsumesMost (walker_syntax old) (limits_of old) b piece n
  heading_most made o t = record {
    header = λ es path last started bytes more h whole-front text sp ok.
        let g = stands_going old b stands-old es path last (in_header started) none whole-front in
        let here : IsIn stages.Heading old.header.items (in_header started) = subst (λ z. IsIn z old.header.items (in_header started)) o g.1 in
        let same : started ≡ old.header.items = cc in
        let syntax-is = syntax_at (length b) (length b) path (walker_syntax old) last (top old) (below old) g.0.levels in
        size_by new.stage made bytes more h (not_refused new.stage refl ok) t text (subst (λ z. SpellsHeader (layout z) h (old.header.items ++ bytes)) (sym syntax-is) (subst (λ z. SpellsHeader (layout (spot_behind (walker_syntax old) path last (length b)).syntax) h (z ++ bytes)) same sp));
    value = λ es path last h v whole-front.
        let g = stands_going old b stands-old es path last (in_value h v) none whole-front in
        let here : IsIn stages.Heading old.header.items (in_value h v) = subst (λ z. IsIn z old.header.items (in_value h v)) o g.1 in
        absurd cc;
    part = λ es path last started whole-front some ok. part_by new.stage made started (in_part es path last started whole-front ok) some t;
    refusal = on_refusal;
  }

  -- of a value

  value_part : (stage : Stage) (started : List ℕ) → IsIn stage new.header.items (in_header started) → 0 < length started → ArrivesAt (mode_of stage new.offset new.header.items) new.offset → ⊥
  value_part (stages.Stopped fault) started i some a = i
  value_part (stages.Value tag remaining kept) started i some a = i
  value_part stages.Heading started i some a = let same : started ≡ new.header.items = cc in absurd (omega (arith, some, ap length (same ∙ a)))

  pub value_most : (tag : Tag) (remaining : ℕ) (kept : Bool) → old.stage ≡ stages.Value tag remaining kept → n ≡ min (length piece) remaining → ArrivesAt (mode_of new.stage new.offset new.header.items) new.offset → ConsumesMost (walker_syntax old) (limits_of old) b piece n
  value_most tag remaining kept o size arrives = record {
    header = λ es path last started bytes more h whole-front text sp ok.
        let g = stands_going old b stands-old es path last (in_header started) none whole-front in
        let here : IsIn (stages.Value tag remaining kept) old.header.items (in_header started) = subst (λ z. IsIn z old.header.items (in_header started)) o g.1 in
        absurd here;
    value = λ es path last h v whole-front.
        let g = stands_going old b stands-old es path last (in_value h v) none whole-front in
        let here : IsIn (stages.Value tag remaining kept) old.header.items (in_value h v) = subst (λ z. IsIn z old.header.items (in_value h v)) o g.1 in
        let rest : remaining ≡ h.length - length v = omega (arith, here.1) in
        size ∙ ap (min (length piece)) rest;
    part = λ es path last started whole-front some ok. absurd (value_part new.stage started (in_part es path last started whole-front ok) some arrives);
    refusal = on_refusal;
  }

-- a walker after bytes of a value

pub value_received : {V D : ℕ} (old new : Walker V D) (b consumed : List ℕ) → StandsAt old b → fault_of old ≡ None → new.offset ≡ old.offset + length consumed → new.offset ≡ length (b ++ consumed)
value_received old new b consumed h none offset =
    let before : old.offset ≡ length b = none_offset (walker_syntax old) (limits_of old) b (reported_by old) h.reports none in
    omega (arith, offset, before, length-append b consumed)

pub value_arrives : {V D : ℕ} (old new : Walker V D) (consumed : List ℕ) (tag : Tag) (remaining : ℕ) (kept : Bool) → old.stage ≡ stages.Value tag remaining kept → state_of new ≡ run (limits_of old) (state_of old) consumed → new.offset ≡ old.offset + length consumed → 0 < length consumed → length consumed ≤ remaining
    → ArrivesAt (mode_of new.stage new.offset new.header.items) new.offset
value_arrives old new consumed tag remaining kept o state offset some le =
    let arrives : ArrivesAt (mode_of new.stage new.offset new.header.items) (old.offset + length consumed) = subst (λ (z : State). ArrivesAt z.mode (old.offset + length consumed)) (sym state) (value_part_arrives (top old) (below old) (limits_of old) old.offset old.stage old.header.items tag remaining kept consumed o some le) in
    subst (ArrivesAt (mode_of new.stage new.offset new.header.items)) (sym offset) arrives

-- the first bytes of a piece

pub front_size : (remaining : ℕ) (piece run : List ℕ) → run ≡ take remaining piece → length run ≡ min (length piece) remaining
front_size remaining piece run e = let size = length-take remaining piece in omega (arith, ap length e, size)

pub front_again : (remaining : ℕ) (piece run : List ℕ) → run ≡ take remaining piece → take (length run) piece ≡ run
front_again remaining piece run e = by (cases_le (length piece) remaining)
  where
    size : length run ≡ min (length piece) remaining
    size = front_size remaining piece run e

    by : (length piece ≤ remaining) ⊎ (remaining < length piece) → take (length run) piece ≡ run
    by (inl le) = take_all (length run) piece (omega (arith, size, le)) ∙ sym (e ∙ take_all remaining piece le)
    by (inr lt) = ap (λ z. take z piece) (let k : length run ≡ remaining = omega (arith, size, lt) in k) ∙ sym e

pub empty_size : (piece : List ℕ) (remaining : ℕ) (q : Bool) → q ≡ nat_eq (length piece) 0 → q ≡ true → 0 ≡ min (length piece) remaining
empty_size piece remaining q e t = let none = eqb-true (length piece) 0 (sym e ∙ t) in omega (arith, none)

pub some_size : (piece : List ℕ) (remaining : ℕ) (stage : Stage) (tag : Tag) (kept : Bool) (q : Bool) → q ≡ nat_eq (length piece) 0 → q ≡ false → stage ≡ stages.Value tag remaining kept → 0 < due_of stage → 0 < min (length piece) remaining
some_size piece remaining stage tag kept q e f is due =
    let some = false-eqb (length piece) 0 (sym (sym e ∙ f)) in
    let more : 0 < remaining = subst (λ z. 0 < due_of z) is due in
    omega (arith, some, more)
