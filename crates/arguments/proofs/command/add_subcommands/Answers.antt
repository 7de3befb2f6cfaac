use Rattle.arguments.proofs.TableRowsAreAdded.{commands_more, commands_all}
use Rattle.arguments.proofs.command.add_subcommands.Goals as goal

pub loop-subcommand-preserved : goal.loop-subcommand-preserved
loop-subcommand-preserved c =
    commands_more c.loop-subcommand.command c.in_ok-command.command c.in_ok-command_for.field-0 _ c.args.subcommands.now c.loop-subcommand.subcommand-index _ c.loop-subcommand-test.true
    c.in_ok-command.ensures c.in_ok-command_for.ensures c.loop-subcommand.invariant

pub returns : goal.returns
returns c = commands_all _ _ c.args.subcommands.now c.loop-subcommand.subcommand-index c.loop-subcommand-test.false c.loop-subcommand.invariant
