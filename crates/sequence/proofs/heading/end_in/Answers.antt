use Rattle.std.proofs.Common.{◌∙◌, sym, ap}
use Rattle.element.specs.Header.{need}
use Rattle.sequence.specs.machine.Judging.{limits_by}
use Rattle.sequence.proofs.CodeIsMachine.WhereRulesBreak.{need_short, examined_end}
use Rattle.sequence.proofs.heading.end_in.Goals as goal

pub examine-whole-requires-clause-size : goal.examine-whole-requires-clause-size
examine-whole-requires-clause-size c = need_short c.args.spot.now.syntax c.args.bytes.now c.in-Size.size (ap (λ z. need z c.args.bytes.now) (sym c.layout.ensures) ∙ sym c.need.ensures ∙ c.in-Size.is)

pub returns-then-is_whole_header : goal.returns-then-is_whole_header
returns-then-is_whole_header c = examined_end (limits_by c.args.wanted.now.list.items c.args.bounds.now) c.args.spot.now c.args.bytes.now c.args.started c.in-Size.size c.examine-whole.result (ap (λ z. need z c.args.bytes.now) (sym c.layout.ensures) ∙ sym c.need.ensures ∙ c.in-Size.is) (sym c.is_whole_header.ensures ∙ c.if-is_whole_header.true) c.examine-whole.ensures
