use Rattle.std.proofs.Common.{◌∙◌, refl}
use Rattle.element.specs.Header.{number}
use Rattle.sequence.specs.machine.State.{top, below, limits_of, kept_values}
use Rattle.sequence.proofs.CodeIsMachine.InnermostLevel.{value_empty, value_started}
use Rattle.sequence.proofs.CodeIsMachine.StateAfterCall.{kept_started}
use Rattle.sequence.proofs.walker.Walker.begin_value.Goals as goal

pub returns-then-length-eq0 : goal.returns-then-length-eq0
returns-then-length-eq0 g c =
    record {
      state = c.arrive.ensures.state ∙ value_empty c.args.self.now.offset (top c.args.self.now) (below c.args.self.now) c.args.tag c.args.length c.if-length-eq0.true;
      same = record { syntax = c.arrive.ensures.same.syntax; limit = c.arrive.ensures.same.limit; wanted = c.arrive.ensures.same.wanted ∙ c.begin_kept-kept.ensures.wants };
      values = c.arrive.ensures.values ∙ kept_started (limits_of c.args.self.now) c.args.self.now.root c.args.self.now.levels.items (number c.args.tag) c.number.result (kept_values c.args.self.now) _ c.number.ensures c.begin_kept-kept.ensures.values;
    }

pub returns-else-length-eq0 : goal.returns-else-length-eq0
returns-else-length-eq0 g c =
    record {
      state = value_started c.args.self.now.offset (top c.args.self.now) (below c.args.self.now) c.args.tag c.args.length c.if-length-eq0.false;
      same = record { syntax = refl; limit = refl; wanted = c.begin_kept-kept.ensures.wants };
      values = kept_started (limits_of c.args.self.now) c.args.self.now.root c.args.self.now.levels.items (number c.args.tag) c.number.result (kept_values c.args.self.now) _ c.number.ensures c.begin_kept-kept.ensures.values;
    }
