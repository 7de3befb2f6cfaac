use Rattle.std.proofs.Common.{◌∙◌}
use Rattle.sequence.specs.machine.State.{top, below}
use Rattle.sequence.proofs.CodeIsMachine.InnermostLevel.{level_empty, level_opened}
use Rattle.sequence.proofs.walker.Walker.begin_level.Goals as goal

pub returns-then-length-eq0 : goal.returns-then-length-eq0
returns-then-length-eq0 g c =
    record {
      state = c.arrive.ensures.state ∙ level_empty c.args.self.now.offset c.args.scope (top c.args.self.now) (below c.args.self.now) c.args.length c.if-length-eq0.true;
      same = c.arrive.ensures.same;
      values = c.arrive.ensures.values;
    }

pub returns-else-length-eq0 : goal.returns-else-length-eq0
returns-else-length-eq0 g c =
    record {
      state = c.arrive-else-length-eq0.ensures.state ∙ level_opened c.args.self.now.root c.args.self.now.levels.items c.push.new.self.items c.args.self.now.offset c.args.length c.args.scope c.new.result c.if-length-eq0.false c.push.ensures.items c.new.ensures;
      same = record { syntax = c.arrive-else-length-eq0.ensures.same.syntax; limit = c.arrive-else-length-eq0.ensures.same.limit; wanted = c.arrive-else-length-eq0.ensures.same.wanted };
      values = c.arrive-else-length-eq0.ensures.values;
    }
