use Rattle.element.specs.Header.{item_tag}
use Rattle.std.proofs.Common.{◌∙◌, [], ◌∷◌, ◌++◌, length, not, is_ok, sym, ap, subst, arith}
use Rattle.std.proofs.lemmas.Bool.{cond-true}
use Rattle.std.proofs.lemmas.List.{length-drop}
use Rattle.dicomdir.specs.machine.Texts.{HasElements, content_at}
use Rattle.dicomdir.proofs.FrontIsFirstElement.{same_tags, other_tag}
use Rattle.dicomdir.proofs.RecordsAreAsSpelled.{read_none, read_next, read_fails, read_to_mark, read_to_end}
use Rattle.dicomdir.proofs.records.read_records.Goals as goal
use Rattle.std.proofs.lemmas.Grind.{common_steps}

pub loop-head-init : goal.loop-head-init
loop-head-init g c = grind (arith, common_steps, read_none)

pub returns-then-ne-clause-read : goal.returns-then-ne-clause-read
returns-then-ne-clause-read g c ok items before has are = grind (arith, common_steps, read_to_mark c.args.syntax c.args.first items c.args.text.now c.loop-head.rest.now c.args.records.now.items c.loop-head.records.items before c.in-Some.head (c.loop-head.invariant.read items has) (sym c.head_of.ensures.value ∙ c.in-Some.is) (other_tag c.in-Some.head.header.tag item_tag (sym c.ne.ensures ∙ c.if-ne.true)) are)

pub returns-clause-read : goal.returns-clause-read
returns-clause-read g c ok items before has are = grind (arith, common_steps, read_to_end c.args.syntax c.args.first items c.args.text.now c.loop-head.rest.now c.args.records.now.items c.loop-head.records.items before (c.loop-head.invariant.read items has) (sym c.head_of.ensures.value ∙ c.in_default.is) are)

pub returns-in-Err-clause-fails : goal.returns-in-Err-clause-fails
returns-in-Err-clause-fails g c items has =
    read_fails c.args.syntax c.args.first items c.args.text.now c.loop-head.rest.now c.args.records.now.items c.loop-head.records.items c.in-Some.head c.in-Err.fault
    (c.loop-head.invariant.read items has) (sym c.head_of.ensures.value ∙ c.in-Some.is) (same_tags c.in-Some.head.header.tag item_tag (sym c.ne.ensures ∙ c.if-ne.false))
    (λ es there. c.in-Err.ensures.fails es
    (subst (λ z. HasElements c.args.syntax es z) (sym (c.content_of.ensures.value ∙ ap (λ z. content_at c.in-Some.head.header z) c.after-next.ensures)) there))

pub loop-head-preserved : goal.loop-head-preserved
loop-head-preserved g c =
    record {
      fits = omega (arith, length-drop c.in-Some.head.size c.loop-head.rest.now, ap length c.after-next.ensures);
      read = λ items has.
          read_next c.args.syntax c.args.first items c.args.text.now c.loop-head.rest.now c.after_item-rest.result.now c.args.records.now.items c.loop-head.records.items c.push.new.self.items
          c.in-Some.head c.in-Ok.record c.loop-head.invariant.fits
          (c.loop-head.invariant.read items has) (sym c.head_of.ensures.value ∙ c.in-Some.is) (same_tags c.in-Some.head.header.tag item_tag (sym c.ne.ensures ∙ c.if-ne.false))
          (λ es there. c.in-Ok.ensures.read es
          (subst (λ z. HasElements c.args.syntax es z) (sym (c.content_of.ensures.value ∙ ap (λ z. content_at c.in-Some.head.header z) c.after-next.ensures)) there))
          (λ es content more i w. c.after_item-rest.ensures.after es content more i (c.after-next.ensures ∙ w))
          (c.push.ensures.items ∙ cond-true (is_ok c.push.result) (c.loop-head.records.items ++ c.in-Ok.record ∷ []) c.loop-head.records.items (c.is_err.ensures.negation ∙ ap not c.if-is_err.false));
    }
