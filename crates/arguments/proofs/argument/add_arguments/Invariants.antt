use Rattle.std.proofs.Common.{◌≡◌, drop, map}
use Rattle.clap.specs.Simple.{app_of}
use Rattle.arguments.specs.CommandLine.{with_rules}
use Rattle.arguments.specs.machine.Tables.{rule_for}
use Rattle.arguments.proofs.argument.add_arguments.Given as goal

abbrev pub invariant-loop-argument : goal.invariant-loop-argument
invariant-loop-argument l =
    with_rules (app_of l.command) (map rule_for (drop l.argument-index l.arguments)) ≡ with_rules (app_of l.fn.command) (map rule_for l.arguments)
