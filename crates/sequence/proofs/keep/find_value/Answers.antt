use Rattle.std.proofs.Common.{rules, ◌≡◌, ◌<◌, ◌+◌, ◌∙◌, ap, length, drop, get_or, arith}
use Rattle.std.proofs.lemmas.List.{length-drop}
use Rattle.sequence.specs.Wanted.{value_of}
use Rattle.sequence.specs.Fields.{stored}
use Rattle.sequence.proofs.WantedValues.OneRoom.{look_absent, look_on, size_absent, size_on, part_is}
use Rattle.sequence.proofs.keep.find_value.Goals as goal
use Rattle.sequence.proofs.keep.find_value.Goals.{then-size+else-number-tag, else-size}

pub loop-at-preserved : goal.loop-at-preserved
loop-at-preserved c = elim c.if-size.branch [
  | then-size+else-number-tag w ↦
      (let ws = c.args.list.now in
      let ns = c.args.lengths.now in
      let i = c.loop-at.at in
      let long : length c.args.lengths.now ≡ 16 = search rules in
      let n = get_or c.args.lengths.now c.loop-at.at 0 in
      let lt2 : c.loop-at.at < length c.args.lengths.now = omega (arith, long, c.requires.few, c.loop-at-test.true) in
      let rest : c.if-size.rest.now ≡ drop (get_or c.args.lengths.now c.loop-at.at 0) c.loop-at.rest.now = ap (λ z. z.now) w.rest-is ∙ part_is (get_or c.args.lengths.now c.loop-at.at 0) c.loop-at.rest.now in
      let size = size_on ws ns i (length c.loop-at.rest.now) c.loop-at-test.true lt2 w.if-size.true c.loop-at.invariant.1 in (
        omega (arith, c.loop-at-test.true),
        omega (arith, size, ap length rest, length-drop (get_or c.args.lengths.now c.loop-at.at 0) c.loop-at.rest.now),
        ap (λ z. value_of (stored (drop (c.loop-at.at + 1) c.args.list.now) (drop (c.loop-at.at + 1) c.args.lengths.now) z) c.args.tag) rest
            ∙ look_on ws ns c.loop-at.rest.now i c.args.tag _ c.loop-at-test.true lt2 w.if-size.true (λ same. w.if-number-tag.false (w.number.ensures ∙ same)) ∙ c.loop-at.invariant.2,
      ))
  | else-size w ↦
      (let ws = c.args.list.now in
      let ns = c.args.lengths.now in
      let i = c.loop-at.at in
      let long : length c.args.lengths.now ≡ 16 = search rules in
      let lt2 : c.loop-at.at < length c.args.lengths.now = omega (arith, long, c.requires.few, c.loop-at-test.true) in
      let rest : c.if-size.rest.now ≡ c.loop-at.rest.now = ap (λ z. z.now) w.rest-is in
      let size = size_absent ws ns i (length c.loop-at.rest.now) c.loop-at-test.true lt2 w.if-size.false c.loop-at.invariant.1 in (
        omega (arith, c.loop-at-test.true),
        omega (arith, size, ap length rest),
        ap (λ z. value_of (stored (drop (c.loop-at.at + 1) c.args.list.now) (drop (c.loop-at.at + 1) c.args.lengths.now) z) c.args.tag) rest
            ∙ look_absent ws ns c.loop-at.rest.now i c.args.tag c.loop-at-test.true lt2 w.if-size.false ∙ c.loop-at.invariant.2,
      ))
]
