use Rattle.std.proofs.Common.{◌∙◌, ◌+◌, ◌-◌, length, refl, sym, ap, arith}
use Rattle.std.proofs.lemmas.List.{length-drop}
use Rattle.element.specs.Header.{number}
use Rattle.dicomdir.specs.Directory.{found}
use Rattle.dicomdir.proofs.ElementsFoundByTag.{all_remaining, remaining_after, missing_at_mark, missing_at_end, stands_here, same_number, other_number}
use Rattle.dicomdir.proofs.found.find.Goals as goal
use Rattle.std.proofs.lemmas.Grind.{common_steps}

pub loop-head-init : goal.loop-head-init
loop-head-init c = record { fits = omega arith; remaining = λ es has. all_remaining c.args.syntax (number c.args.tag) c.args.offset es c.args.text.now has }

pub returns-then-is_marker-clause-found : goal.returns-then-is_marker-clause-found
returns-then-is_marker-clause-found c es has = grind (arith, common_steps, missing_at_mark c.args.syntax (number c.args.tag) c.args.offset es c.args.text.now c.loop-head.rest.now c.in-Some.head (c.loop-head.invariant.remaining es has) (sym c.head_of.ensures.value ∙ c.in-Some.is) (sym c.is_marker.ensures ∙ c.if-is_marker.true))

pub returns-clause-found : goal.returns-clause-found
returns-clause-found c es has = grind (arith, common_steps, missing_at_end c.args.syntax (number c.args.tag) c.args.offset es c.args.text.now c.loop-head.rest.now (c.loop-head.invariant.remaining es has) (sym c.head_of.ensures.value ∙ c.in_default.is))

pub returns-then-eq-clause-found : goal.returns-then-eq-clause-found
returns-then-eq-clause-found c es has =
    let stands = stands_here c.args.syntax (number c.args.tag) c.args.offset (c.args.offset + (length c.args.text.now - length c.loop-head.rest.now)) es c.args.text.now c.loop-head.rest.now c.after-next.result.now c.in-Some.head
    (c.loop-head.invariant.remaining es has) (sym c.head_of.ensures.value ∙ c.in-Some.is) (sym c.is_marker.ensures ∙ c.if-is_marker.false)
    (same_number c.in-Some.head.header.tag c.args.tag (sym c.eq.ensures ∙ c.if-eq.true)) refl c.after-next.ensures in
    c.element_at.ensures.found (found (number c.args.tag) c.args.offset es) stands.content stands.more stands.size stands.is stands.whole

pub loop-head-preserved : goal.loop-head-preserved
loop-head-preserved c =
    record {
      fits = omega (arith, length-drop c.in-Some.head.size c.loop-head.rest.now, ap length c.after-next.ensures);
      remaining = λ es has.
          remaining_after c.args.syntax (number c.args.tag) c.args.offset es c.args.text.now c.loop-head.rest.now c.after_content-rest.result.now c.in-Some.head
          c.loop-head.invariant.fits (c.loop-head.invariant.remaining es has) (sym c.head_of.ensures.value ∙ c.in-Some.is) (sym c.is_marker.ensures ∙ c.if-is_marker.false)
          (λ fits. other_number c.in-Some.head.header.tag c.args.tag fits c.requires.is_tag.1 (sym c.eq.ensures ∙ c.if-eq.false))
          (λ p f content more i w. c.after_content-rest.ensures.after p f content more i (c.after-next.ensures ∙ w));
    }
