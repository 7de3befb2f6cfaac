use Rattle.element.specs.Header.{item_tag}
use Rattle.std.proofs.Common.{◌∙◌, length, sym, ap, arith}
use Rattle.std.proofs.lemmas.List.{length-drop}
use Rattle.dicomdir.proofs.ElementsFoundByTag.{content_drop, content_items, item_drop, item_elements, end_of_elements, always_elements, next_elements, end_of_items, always_items, next_items}
use Rattle.dicomdir.proofs.FrontIsFirstElement.{same_tags, other_tag}
use Rattle.dicomdir.proofs.found.+levels.Goals as goal
use Rattle.std.proofs.lemmas.Grind.{common_steps}

pub after_content-returns-then-header-clause-after : goal.after_content-returns-then-header-clause-after
after_content-returns-then-header-clause-after t c offset f content rest is whole = grind (arith, common_steps, content_drop c.args.syntax c.args.header offset f content rest c.args.text.now c.if-header.true is whole)

pub after_content-returns-in-Sequence-clause-after : goal.after_content-returns-in-Sequence-clause-after
after_content-returns-in-Sequence-clause-after t c offset f content rest is whole =
    let some = content_items c.args.syntax c.in-Sequence.inner c.args.header offset f content rest c.args.text.now c.if-header.false (sym c.shape_of.ensures ∙ c.in-Sequence.is) is whole in
    c.after_items.ensures.after some.items rest some.spelled

pub after_elements-returns-then-is_marker-clause-after : goal.after_elements-returns-then-is_marker-clause-after
after_elements-returns-then-is_marker-clause-after t c es rest is =
    c.after-next.ensures ∙ end_of_elements c.args.syntax c.in-Some.head rest c.loop-head.rest.now (c.loop-head.invariant.remaining es rest is) (sym c.head_of.ensures.value ∙ c.in-Some.is) (sym c.is_marker.ensures ∙ c.if-is_marker.true)

pub after_elements-returns-clause-after : goal.after_elements-returns-clause-after
after_elements-returns-clause-after t c es rest is = grind (arith, common_steps, always_elements c.args.syntax rest c.loop-head.rest.now (c.loop-head.invariant.remaining es rest is) (sym c.head_of.ensures.value ∙ c.in_default.is))

pub after_item-returns-then-header-ne-UNDEFINED-clause-after : goal.after_item-returns-then-header-ne-UNDEFINED-clause-after
after_item-returns-then-header-ne-UNDEFINED-clause-after t c es content rest is whole = grind (arith, common_steps, item_drop c.args.syntax c.args.header es content rest c.args.text.now c.if-header-ne-UNDEFINED.true is whole)

pub after_item-returns-clause-after : goal.after_item-returns-clause-after
after_item-returns-clause-after t c es content rest is whole =
    c.after_elements.ensures.after es rest (item_elements c.args.syntax c.args.header es content rest c.args.text.now c.if-header-ne-UNDEFINED.false is whole)

pub after_items-returns-then-ne-clause-after : goal.after_items-returns-then-ne-clause-after
after_items-returns-then-ne-clause-after t c items rest is =
    c.after-next.ensures ∙ end_of_items c.args.syntax c.in-Some.head rest c.loop-head.rest.now (c.loop-head.invariant.remaining items rest is) (sym c.head_of.ensures.value ∙ c.in-Some.is) (other_tag c.in-Some.head.header.tag item_tag (sym c.ne.ensures ∙ c.if-ne.true))

pub after_items-returns-clause-after : goal.after_items-returns-clause-after
after_items-returns-clause-after t c items rest is = grind (arith, common_steps, always_items c.args.syntax rest c.loop-head.rest.now (c.loop-head.invariant.remaining items rest is) (sym c.head_of.ensures.value ∙ c.in_default.is))

pub after_elements-loop-head-preserved : goal.after_elements-loop-head-preserved
after_elements-loop-head-preserved t c =
    record {
      fits = omega (arith, length-drop c.in-Some.head.size c.loop-head.rest.now, ap length c.after-next.ensures);
      remaining = λ es rest is.
          next_elements c.args.syntax c.in-Some.head rest c.after_content-rest.result.now c.loop-head.rest.now (c.loop-head.invariant.remaining es rest is)
          (sym c.head_of.ensures.value ∙ c.in-Some.is) (sym c.is_marker.ensures ∙ c.if-is_marker.false)
          (λ offset f content more i w. c.after_content-rest.ensures.after offset f content more i (c.after-next.ensures ∙ w));
    }

pub after_items-loop-head-preserved : goal.after_items-loop-head-preserved
after_items-loop-head-preserved t c =
    record {
      fits = omega (arith, length-drop c.in-Some.head.size c.loop-head.rest.now, ap length c.after-next.ensures);
      remaining = λ items rest is.
          next_items c.args.syntax c.in-Some.head rest c.after_item-rest.result.now c.loop-head.rest.now (c.loop-head.invariant.remaining items rest is)
          (sym c.head_of.ensures.value ∙ c.in-Some.is) (same_tags c.in-Some.head.header.tag item_tag (sym c.ne.ensures ∙ c.if-ne.false))
          (λ es content more i w. c.after_item-rest.ensures.after es content more i (c.after-next.ensures ∙ w));
    }
