use Rattle.std.proofs.Common.{ap, sym, ◌∙◌}
use Rattle.std.specs.Cmp.Lexicographic.{pointwise}
use Rattle.std.proofs.Common.{nat_eq}
use Rattle.negotiate.specs.Contexts.{is_text}
use Rattle.negotiate.specs.Settings.{settings_of}
use Rattle.negotiate.proofs.FurtherClassIsFound.{is_here, not_here, none_here, none_remaining}
use Rattle.negotiate.proofs.config.Config.class_index.Goals as goal

pub returns-then-eq : goal.returns-then-eq
returns-then-eq c =
    sym (c.loop-index.invariant ∙ is_here (is_text c.args.uid.now) (settings_of c.args.self.now).additional.classes c.loop-index.index c.in-Some.text.now (sym c.in-Some.ensures)
    (ap (λ u. pointwise nat_eq c.in-Some.text.now u) (sym c.as_bytes.ensures) ∙ sym c.if-eq.ensures))

pub returns-in-None : goal.returns-in-None
returns-in-None c =
    sym (c.loop-index.invariant ∙ none_here (is_text c.args.uid.now) (settings_of c.args.self.now).additional.classes c.loop-index.index (sym c.in-None.ensures))

pub loop-index-preserved : goal.loop-index-preserved
loop-index-preserved c =
    c.loop-index.invariant ∙ not_here (is_text c.args.uid.now) (settings_of c.args.self.now).additional.classes c.loop-index.index c.in-Some.text.now (sym c.in-Some.ensures)
    (ap (λ u. pointwise nat_eq c.in-Some.text.now u) (sym c.as_bytes.ensures) ∙ sym c.if-eq.ensures)

pub returns : goal.returns
returns c =
    sym (c.loop-index.invariant ∙ none_remaining (is_text c.args.uid.now) c.args.self.now c.loop-index.index c.args.self.now.few_named c.loop-index-test.false)
