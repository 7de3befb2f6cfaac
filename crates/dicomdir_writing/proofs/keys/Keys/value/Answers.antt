use Rattle.std.proofs.Common.{Some, ap, sym, ◌∙◌}
use Rattle.element.specs.Header.{number}
use Rattle.sequence.specs.Wanted.{value_of}
use Rattle.dicomdir_writing.specs.Keys.{key_values}
use Rattle.dicomdir_writing.proofs.RowLaws.{value_here, value_later}
use Rattle.dicomdir_writing.proofs.keys.Keys.value.Goals as goal

pub loop-entry-preserved : goal.loop-entry-preserved
loop-entry-preserved g c =
    sym (value_later c.as_slice-entry-items.result.now c.number-number.result c.loop-entry.entry-index c.entry-item.result c.loop-entry-test.true
    (λ e. c.if-number.false (c.number.ensures ∙ ap (λ entry. number entry.tag) c.entry-item.is ∙ e)))
    ∙ c.loop-entry.invariant

pub returns-then-number : goal.returns-then-number
returns-then-number g c =
    ap (λ v. Some v) (c.as_slice.ensures.value ∙ ap (λ entry. entry.value.items) c.entry-item.is)
    ∙ sym (value_here c.as_slice-entry-items.result.now c.number-number.result c.loop-entry.entry-index c.entry-item.result c.loop-entry-test.true
    (sym (ap (λ entry. number entry.tag) c.entry-item.is) ∙ sym c.number.ensures ∙ c.if-number.true))
    ∙ c.loop-entry.invariant
    ∙ ap (λ n. value_of (key_values c.args.self.now) n) c.number-number.ensures
