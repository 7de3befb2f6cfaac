use Rattle.std.proofs.Common.{◌-◌, [], ap, sym, subst, arith}
use Rattle.std.proofs.KnownBytes.{Consumes-nil}
use Rattle.std.proofs.lemmas.Result.{err_from_is_err_and}
use Rattle.part10.specs.MetaText.{no_more}
use Rattle.part10.specs.machine.Reading.{NoGroup}
use Rattle.part10.proofs.PartFailsTheWhole.{breaks_after}
use Rattle.part10.proofs.GroupIsItsElements.{Grouped, grouped_then, no_group}
use Rattle.part10.proofs.reading.read_group.Goals as goal

pub loop-remaining-init : goal.loop-remaining-init
loop-remaining-init g c =
    let none = c.none-found.ensures in
    record {
      text = [];
      elements = [];
      consumed = Consumes-nil _;
      counted = omega arith;
      spelled = no_more;
      ends = omega arith;
      is = record { class = ap (λ z. z.class) none; instance = ap (λ z. z.instance) none; syntax = ap (λ z. z.syntax) none };
    }

pub returns-in_err-element : goal.returns-in_err-element
returns-in_err-element g c =
    record {
      read = rw (err_from_is_err_and c.from_residual.result c.from_residual.ensures.1).1 tt;
      none = let p = err_from_is_err_and c.from_residual.result c.from_residual.ensures.1 in
          rw (p.1, p.2) (breaks_after _ _ _ _ _ (NoGroup c.args.size) c.loop-remaining.invariant.consumed c.in_err-element.ensures.none
          (λ rest none. no_group c.args.size c.loop-remaining.remaining c.loop-remaining.last c.loop-remaining.found _ _ c.loop-remaining.invariant rest c.loop-remaining-test.true none));
    }

pub loop-remaining-preserved : goal.loop-remaining-preserved
loop-remaining-preserved g c =
    let more = grouped_then c.args.size c.loop-remaining.remaining c.loop-remaining.last c.loop-remaining.found c.in_ok-element.element _ _ _ c.loop-remaining.invariant c.in_ok-element.ensures.read in
    subst (λ z. Grouped c.args.size (c.loop-remaining.remaining - c.in_ok-element.element.size) c.in_ok-element.element.number z (g.R.Read.remaining c.args.input.now) (g.R.Read.remaining c.read_element.new.input)) (sym c.note.ensures) more

pub returns : goal.returns
returns g c =
    let all = c.loop-remaining.invariant in
    record {
      read = record {
        group = all.text;
        elements = all.elements;
        consumed = all.consumed;
        counted = omega (arith, all.counted, c.loop-remaining-test.false);
        spelled = all.spelled;
        is = all.is;
      };
      none = tt;
    }
