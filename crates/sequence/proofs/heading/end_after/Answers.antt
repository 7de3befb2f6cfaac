use Rattle.std.proofs.Common.{◌∙◌, sym, ap, refl}
use Rattle.element.specs.Header.{need}
use Rattle.element.specs.declared.size.Need.TheVariants.{More, BadVr}
use Rattle.sequence.specs.machine.Judging.{limits_by}
use Rattle.sequence.proofs.CodeIsMachine.WhereRulesBreak.{need_short, tagged_end, named_end, part_end, size_end}
use Rattle.sequence.proofs.heading.end_after.Goals as goal

pub returns-then-not-is_part : goal.returns-then-not-is_part
returns-then-not-is_part c = tagged_end (limits_by c.args.wanted.now.list.items c.args.bounds.now) c.args.spot.now c.args.bytes.now c.args.started c.requires.started c.requires.quiet c.examine-tagged.result (sym c.is_part.ensures ∙ c.if-not-is_part.true) c.examine-tagged.ensures

pub returns-then-not-is_part-2 : goal.returns-then-not-is_part-2
returns-then-not-is_part-2 c = named_end (limits_by c.args.wanted.now.list.items c.args.bounds.now) c.args.spot.now c.args.bytes.now c.args.started c.requires.started c.requires.quiet c.examine-tagged.result (sym c.is_part.ensures ∙ c.if-not-is_part.false) c.examine-tagged.ensures c.examine-named.result (sym c.is_part-2.ensures ∙ c.if-not-is_part-2.true) c.examine-named.ensures

pub examine-requires-clause-size : goal.examine-requires-clause-size
examine-requires-clause-size c = need_short c.args.spot.now.syntax c.args.bytes.now c.in-Size.size (ap (λ z. need z c.args.bytes.now) (sym c.layout.ensures) ∙ sym c.need.ensures ∙ c.in-Size.is)

pub returns-in-Size : goal.returns-in-Size
returns-in-Size c = size_end (limits_by c.args.wanted.now.list.items c.args.bounds.now) c.args.spot.now c.args.bytes.now c.args.started c.requires.started c.requires.quiet c.examine-tagged.result (sym c.is_part.ensures ∙ c.if-not-is_part.false) c.examine-tagged.ensures c.examine-named.result (sym c.is_part-2.ensures ∙ c.if-not-is_part-2.false) c.examine-named.ensures c.in-Size.size c.examine.result (ap (λ z. need z c.args.bytes.now) (sym c.layout.ensures) ∙ sym c.need.ensures ∙ c.in-Size.is) c.examine.ensures

pub returns-in-More : goal.returns-in-More
returns-in-More c = part_end (limits_by c.args.wanted.now.list.items c.args.bounds.now) c.args.spot.now c.args.bytes.now c.args.started c.requires.started c.requires.quiet c.examine-tagged.result (sym c.is_part.ensures ∙ c.if-not-is_part.false) c.examine-tagged.ensures c.examine-named.result (sym c.is_part-2.ensures ∙ c.if-not-is_part-2.false) c.examine-named.ensures More (ap (λ z. need z c.args.bytes.now) (sym c.layout.ensures) ∙ sym c.need.ensures ∙ c.in-More.is) (λ m. refl)

pub returns-in-BadVr : goal.returns-in-BadVr
returns-in-BadVr c = part_end (limits_by c.args.wanted.now.list.items c.args.bounds.now) c.args.spot.now c.args.bytes.now c.args.started c.requires.started c.requires.quiet c.examine-tagged.result (sym c.is_part.ensures ∙ c.if-not-is_part.false) c.examine-tagged.ensures c.examine-named.result (sym c.is_part-2.ensures ∙ c.if-not-is_part-2.false) c.examine-named.ensures BadVr (ap (λ z. need z c.args.bytes.now) (sym c.layout.ensures) ∙ sym c.need.ensures ∙ c.in-BadVr.is) (λ m. refl)
