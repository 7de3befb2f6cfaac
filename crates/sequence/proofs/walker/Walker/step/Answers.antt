use Rattle.sequence.specs.declared.stage.Stage.TheVariants as stages
use Rattle.sequence.specs.declared.stage.Stage.{Stage}
use Rattle.sequence.specs.declared.fault.Fault.{Fault}
use Rattle.element.specs.declared.tag.Tag.{Tag}
use Rattle.std.proofs.Common.{◌≡◌, ◌++◌, length, take, eqb-true, ap, sym, subst, ◌∙◌, refl, arith, ℕ, Bool, Some, None}
use Rattle.sequence.specs.machine.Machine.{ArrivesAt}
use Rattle.sequence.specs.machine.State.{walker_syntax, limits_of, mode_of, fault_by, StandsAt}
use Rattle.sequence.specs.machine.Standing.{IsBytes}
use Rattle.sequence.specs.Answering.{Answers, no_piece}
use Rattle.sequence.proofs.MachineReports.HeldIsState.{walks}
use Rattle.sequence.proofs.StepsStand.WalkerStands.{same_limits, none_stands}
use Rattle.sequence.proofs.StepsStand.StepReports.{stopped_answers, value_unbroken}
use Rattle.sequence.proofs.CodeIsMachine.SplitHeader.{no_items}
use Rattle.sequence.proofs.StepsStand.StepConsumes.{consumed_stands, value_received, value_arrives, some_bytes, heading_answered, value_answered, heading_most, value_most, front_size, front_again, empty_size, some_size}
use Rattle.sequence.proofs.walker.Walker.step.Goals as goal

-- which stages have a fault

fault_not_none : (stage : Stage) (fault : Fault) → stage ≡ stages.Stopped fault → fault_by stage ≡ None → ⊥
fault_not_none stage fault is none = let e : fault_by stage ≡ Some fault = ap fault_by is in cc

one_refusal : (stage : Stage) (fault other : Fault) → stage ≡ stages.Stopped fault → fault_by stage ≡ Some other → fault ≡ other
one_refusal stage fault other is some = let e : fault_by stage ≡ Some fault = ap fault_by is in cc

heading_no_fault : (stage : Stage) (fault : Fault) → stage ≡ stages.Heading → fault_by stage ≡ Some fault → ⊥
heading_no_fault stage fault is some = let e : fault_by stage ≡ None = ap fault_by is in cc

value_no_fault : (stage : Stage) (tag : Tag) (remaining : ℕ) (kept : Bool) (fault : Fault) → stage ≡ stages.Value tag remaining kept → fault_by stage ≡ Some fault → ⊥
value_no_fault stage tag remaining kept fault is some = let e : fault_by stage ≡ None = ap fault_by is in cc

pub returns-in-Stopped : goal.returns-in-Stopped
returns-in-Stopped g c =
    record {
      consumed = omega arith;
      some = λ none some. absurd (fault_not_none c.args.self.now.stage c.in-Stopped.fault c.in-Stopped.is none);
      stands = λ b h. none_stands c.args.self.now b h;
      answers = λ b h. stopped_answers c.args.self.now b (walks c.args.self.now b h) c.args.piece.now c.in-Stopped.fault c.in-Stopped.is;
      longest = λ b h none. absurd (fault_not_none c.args.self.now.stage c.in-Stopped.fault c.in-Stopped.is none);
      syntax = refl;
      limits = refl;
      refused = λ fault e. (let same = one_refusal c.args.self.now.stage c.in-Stopped.fault fault c.in-Stopped.is e in rw same refl, refl);
    }

pub returns-in-Heading : goal.returns-in-Heading
returns-in-Heading g c =
    record {
      consumed = c.advance_heading-count.ensures.consumed;
      some = λ none some. c.advance_heading-count.ensures.some some;
      stands = λ b h.
          let m = c.advance_heading-count.ensures in
          let n = c.advance_heading-count.result.0 in
          consumed_stands c.args.self.now c.advance_heading-count.new.self b (take n c.args.piece.now) h m.state m.values m.same (some_bytes n c.args.piece.now (λ i. omega (arith, c.type_inv.piece i)));
      answers = λ b h.
          let m = c.advance_heading-count.ensures in
          let n = c.advance_heading-count.result.0 in
          let old = c.args.self.now in
          let new = c.advance_heading-count.new.self in
          let bytes : IsBytes (take n c.args.piece.now) = some_bytes n c.args.piece.now (λ i. omega (arith, c.type_inv.piece i)) in
          let k = consumed_stands old new b (take n c.args.piece.now) h m.state m.values m.same bytes in
          subst (λ z. Answers (walker_syntax c.args.self.now) (limits_of c.args.self.now) b c.args.piece.now (take c.advance_heading-count.result.0 c.args.piece.now) z) (sym c.header_step.ensures)
          (heading_answered old new b c.args.piece.now n (walks old b h) (walks new (b ++ take n c.args.piece.now) k) bytes m.same.syntax (same_limits old new m.same) h k m.offset m.consumed c.in-Heading.is c.advance_heading-count.result.1 m.reported);
      longest = λ b h none.
          let m = c.advance_heading-count.ensures in
          let n = c.advance_heading-count.result.0 in
          let old = c.args.self.now in
          let new = c.advance_heading-count.new.self in
          let bytes : IsBytes (take n c.args.piece.now) = some_bytes n c.args.piece.now (λ i. omega (arith, c.type_inv.piece i)) in
          let k = consumed_stands old new b (take n c.args.piece.now) h m.state m.values m.same bytes in
          heading_most old new b c.args.piece.now n h none m.same.syntax (same_limits old new m.same) k m.offset m.consumed c.advance_heading-count.result.1 c.in-Heading.is m.reported;
      syntax = c.advance_heading-count.ensures.same.syntax;
      limits = same_limits c.args.self.now c.advance_heading-count.new.self c.advance_heading-count.ensures.same;
      refused = λ fault e. absurd (heading_no_fault c.args.self.now.stage fault c.in-Heading.is e);
    }

pub returns-then-is_empty : goal.returns-then-is_empty
returns-then-is_empty g c =
    record {
      consumed = omega arith;
      some = λ none some. absurd (let empty = eqb-true (length c.args.piece.now) 0 (sym c.is_empty.ensures ∙ c.if-is_empty.true) in omega (arith, some, empty));
      stands = λ b h. none_stands c.args.self.now b h;
      answers = λ b h. no_piece (value_unbroken c.args.self.now b (walks c.args.self.now b h) c.in-Value.tag c.in-Value.remaining c.in-Value.kept c.in-Value.is) (no_items c.args.piece.now (eqb-true (length c.args.piece.now) 0 (sym c.is_empty.ensures ∙ c.if-is_empty.true))) refl;
      longest = λ b h none.
          value_most c.args.self.now c.args.self.now b c.args.piece.now 0 h none refl refl (none_stands c.args.self.now b h) (omega arith) (omega arith) c.in-Value.tag c.in-Value.remaining c.in-Value.kept c.in-Value.is (empty_size c.args.piece.now c.in-Value.remaining c.is_empty.result c.is_empty.ensures c.if-is_empty.true)
          (subst (λ z. ArrivesAt (mode_of z c.args.self.now.offset c.args.self.now.header.items) c.args.self.now.offset) (sym c.in-Value.is) tt);
      syntax = refl;
      limits = refl;
      refused = λ fault e. absurd (value_no_fault c.args.self.now.stage c.in-Value.tag c.in-Value.remaining c.in-Value.kept fault c.in-Value.is e);
    }

pub returns-else-is_empty : goal.returns-else-is_empty
returns-else-is_empty g c =
    record {
      consumed = let size = front_size c.in-Value.remaining c.args.piece.now c.front-run.result.now c.front-run.ensures in omega (arith, size);
      some = λ none more. let size = front_size c.in-Value.remaining c.args.piece.now c.front-run.result.now c.front-run.ensures in let some = some_size c.args.piece.now c.in-Value.remaining c.args.self.now.stage c.in-Value.tag c.in-Value.kept c.is_empty.result c.is_empty.ensures c.if-is_empty.false c.in-Value.is c.args.self.now.due in omega (arith, size, some);
      stands = λ b h.
          let m = c.advance_value.ensures in
          let run = c.front-run.result.now in
          let same : take (length c.front-run.result.now) c.args.piece.now ≡ c.front-run.result.now = front_again c.in-Value.remaining c.args.piece.now run c.front-run.ensures in
          subst (λ z. StandsAt c.advance_value.new.self (b ++ z)) (sym same)
          (consumed_stands c.args.self.now c.advance_value.new.self b run h m.state m.values m.same (subst IsBytes (sym c.front-run.ensures) (some_bytes c.in-Value.remaining c.args.piece.now (λ i. omega (arith, c.type_inv.piece i)))));
      answers = λ b h.
          let m = c.advance_value.ensures in
          let run = c.front-run.result.now in
          let old = c.args.self.now in
          let new = c.advance_value.new.self in
          let same : take (length c.front-run.result.now) c.args.piece.now ≡ c.front-run.result.now = front_again c.in-Value.remaining c.args.piece.now run c.front-run.ensures in
          let bytes : IsBytes c.front-run.result.now = subst IsBytes (sym c.front-run.ensures) (some_bytes c.in-Value.remaining c.args.piece.now (λ i. omega (arith, c.type_inv.piece i))) in
          let k = consumed_stands old new b run h m.state m.values m.same bytes in
          let size = front_size c.in-Value.remaining c.args.piece.now run c.front-run.ensures in
          let some = some_size c.args.piece.now c.in-Value.remaining c.args.self.now.stage c.in-Value.tag c.in-Value.kept c.is_empty.result c.is_empty.ensures c.if-is_empty.false c.in-Value.is c.args.self.now.due in
          let received = value_received old new b run h (ap fault_by c.in-Value.is) m.offset in
          subst (λ z. Answers (walker_syntax c.args.self.now) (limits_of c.args.self.now) b c.args.piece.now z c.value_step.result) (sym same)
          (value_answered old new b c.args.piece.now run (walks old b h) (walks new (b ++ run) k) bytes m.same.syntax (same_limits old new m.same) k received c.in-Value.tag c.in-Value.remaining c.in-Value.kept c.value_step.result c.in-Value.is m.state m.offset (omega (arith, size, some)) (omega (arith, size)) c.value_step.ensures);
      longest = λ b h none.
          let m = c.advance_value.ensures in
          let run = c.front-run.result.now in
          let old = c.args.self.now in
          let new = c.advance_value.new.self in
          let same : take (length c.front-run.result.now) c.args.piece.now ≡ c.front-run.result.now = front_again c.in-Value.remaining c.args.piece.now run c.front-run.ensures in
          let size = front_size c.in-Value.remaining c.args.piece.now run c.front-run.ensures in
          let bytes : IsBytes c.front-run.result.now = subst IsBytes (sym c.front-run.ensures) (some_bytes c.in-Value.remaining c.args.piece.now (λ i. omega (arith, c.type_inv.piece i))) in
          let k = subst (λ z. StandsAt c.advance_value.new.self (b ++ z)) (sym same) (consumed_stands old new b run h m.state m.values m.same bytes) in
          let some = some_size c.args.piece.now c.in-Value.remaining c.args.self.now.stage c.in-Value.tag c.in-Value.kept c.is_empty.result c.is_empty.ensures c.if-is_empty.false c.in-Value.is c.args.self.now.due in
          let arrives = value_arrives old new run c.in-Value.tag c.in-Value.remaining c.in-Value.kept c.in-Value.is m.state m.offset (omega (arith, size, some)) (omega (arith, size)) in
          value_most old new b c.args.piece.now (length run) h none m.same.syntax (same_limits old new m.same) k m.offset (omega (arith, size)) c.in-Value.tag c.in-Value.remaining c.in-Value.kept c.in-Value.is size arrives;
      syntax = c.advance_value.ensures.same.syntax;
      limits = same_limits c.args.self.now c.advance_value.new.self c.advance_value.ensures.same;
      refused = λ fault e. absurd (value_no_fault c.args.self.now.stage c.in-Value.tag c.in-Value.remaining c.in-Value.kept fault c.in-Value.is e);
    }
