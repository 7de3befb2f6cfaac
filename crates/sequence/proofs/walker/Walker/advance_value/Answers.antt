use Rattle.std.proofs.Common.{◌≡◌, ◌∙◌, length, refl, ap, arith}
use Rattle.sequence.specs.machine.Machine.{State}
use Rattle.sequence.specs.machine.State.{top, below, limits_of, kept_values}
use Rattle.sequence.proofs.CodeIsMachine.ValueBytes.{run_ends, run_continues, run_kept, arrive_offset}
use Rattle.sequence.proofs.walker.Walker.advance_value.Goals as goal

pub returns-then-rest-eq0 : goal.returns-then-rest-eq0
returns-then-rest-eq0 g c =
    record {
      state = let size : length c.args.bytes.now ≡ c.args.remaining = omega (arith, c.requires.within, c.if-rest-eq0.true) in
          c.arrive.ensures.state ∙ run_ends (top c.args.self.now) (below c.args.self.now) (limits_of c.args.self.now) c.args.self.now.offset _ c.args.self.now.stage c.args.self.now.header.items c.args.tag c.args.remaining c.args.kept c.args.bytes.now c.requires.stage c.requires.some size refl;
      same = record { syntax = c.arrive.ensures.same.syntax; limit = c.arrive.ensures.same.limit; wanted = c.arrive.ensures.same.wanted ∙ c.extend_if.ensures.wants };
      values = c.arrive.ensures.values ∙ run_kept (limits_of c.args.self.now) (top c.args.self.now) c.args.self.now.root c.args.self.now.levels.items c.args.self.now.stage c.args.tag c.args.remaining c.args.kept c.args.self.now.offset c.args.self.now.header.items (kept_values c.args.self.now) _ c.args.bytes.now c.requires.stage c.args.self.now.flag c.requires.within c.extend_if.ensures.values;
      offset = ap (λ (z : State). z.offset) c.arrive.ensures.state ∙ arrive_offset _ (top c.args.self.now) (below c.args.self.now);
    }

pub returns-else-rest-eq0 : goal.returns-else-rest-eq0
returns-else-rest-eq0 g c =
    record {
      state = run_continues (top c.args.self.now) (below c.args.self.now) (limits_of c.args.self.now) c.args.self.now.offset _ c.args.self.now.stage c.args.self.now.header.items c.args.tag c.args.remaining _ c.args.kept c.args.bytes.now c.requires.stage (omega (arith, c.if-rest-eq0.false)) refl refl;
      same = record { syntax = refl; limit = refl; wanted = c.extend_if-else-rest-eq0.ensures.wants };
      values = run_kept (limits_of c.args.self.now) (top c.args.self.now) c.args.self.now.root c.args.self.now.levels.items c.args.self.now.stage c.args.tag c.args.remaining c.args.kept c.args.self.now.offset c.args.self.now.header.items (kept_values c.args.self.now) _ c.args.bytes.now c.requires.stage c.args.self.now.flag c.requires.within c.extend_if-else-rest-eq0.ensures.values;
      offset = refl;
    }
