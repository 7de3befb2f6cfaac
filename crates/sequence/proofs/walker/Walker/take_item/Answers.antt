use Rattle.std.proofs.Common.{◌≡◌, ◌∙◌, true, sym, ap}
use Rattle.element.specs.Header.{number}
use Rattle.sequence.specs.Coding.{has_fragments}
use Rattle.sequence.specs.machine.Scopes.{top_of}
use Rattle.sequence.specs.machine.State.{limits_of, kept_values}
use Rattle.sequence.proofs.CodeIsMachine.StateAfterCall.{fragments_inside, inside_value}
use Rattle.sequence.proofs.walker.Walker.take_item.Goals as goal

pub returns-then-has_fragments-clause-values : goal.returns-then-has_fragments-clause-values
returns-then-has_fragments-clause-values g c =
    let holds : has_fragments (top_of c.args.self.now.root c.args.self.now.levels.items).syntax ≡ true = ap has_fragments (sym c.requires.coding) ∙ sym c.has_fragments.ensures ∙ c.if-has_fragments.true in
    c.begin_value.ensures.values ∙ inside_value (limits_of c.args.self.now) c.args.self.now.root c.args.self.now.levels.items (number c.args.header.now.tag) (kept_values c.args.self.now) (fragments_inside c.args.self.now.root c.args.self.now.levels.items c.args.self.now.elements holds)
