use Rattle.arguments.proofs.TableRowsAreAdded.{rules_more, rules_all}
use Rattle.arguments.proofs.argument.add_arguments.Goals as goal

pub loop-argument-preserved : goal.loop-argument-preserved
loop-argument-preserved c =
    rules_more c.loop-argument.command c.in_ok-command.command c.argument_for.result _ c.args.arguments.now c.loop-argument.argument-index _ c.loop-argument-test.true
    c.in_ok-command.ensures c.argument_for.ensures c.loop-argument.invariant

pub returns : goal.returns
returns c = rules_all _ _ c.args.arguments.now c.loop-argument.argument-index c.loop-argument-test.false c.loop-argument.invariant
