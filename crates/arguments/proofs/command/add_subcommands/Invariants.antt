use Rattle.std.proofs.Common.{◌≡◌, drop, map}
use Rattle.clap.specs.Simple.{app_of}
use Rattle.arguments.specs.CommandLine.{with_subcommands}
use Rattle.arguments.specs.machine.Tables.{app_for}
use Rattle.arguments.proofs.command.add_subcommands.Given as goal

abbrev pub invariant-loop-subcommand : goal.invariant-loop-subcommand
invariant-loop-subcommand l =
    with_subcommands (app_of l.command) (map app_for (drop l.subcommand-index l.subcommands)) ≡ with_subcommands (app_of l.fn.command) (map app_for l.subcommands)
