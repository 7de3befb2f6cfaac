-- The rows of the code's tables, as clap defines a simple command.
use Rattle.std.specs.Prelude.{map}
use Rattle.clap.specs.Walk.{Rule}
use Rattle.clap.specs.Simple.{App, new_app}
use Rattle.arguments.specs.CommandLine.{positional, several, needed, optional, defaulted, free, repeated, flag_rule, letter_rule, counted_rule, with_rules}
use Rattle.arguments.specs.declared.argument.Argument.{Argument}
use Rattle.arguments.specs.declared.argument.Argument.TheVariants.{Positional, Several, Needed, Default, Defaults, Free, Repeated, Flag, Letter, Counted}
use Rattle.arguments.specs.declared.command.Subcommand.{Subcommand}

-- the rule of an argument
abbrev pub rule_for : Argument → Rule
rule_for (Positional name help) = positional name.now
rule_for (Several name help) = several name.now
rule_for (Needed name value help) = needed name.now
rule_for (Default name value default help) = optional name.now default.now
rule_for (Defaults name value default help) = defaulted name.now default.now
rule_for (Free name value help) = free name.now
rule_for (Repeated name value help) = repeated name.now
rule_for (Flag name help) = flag_rule name.now
rule_for (Letter name letter help) = letter_rule name.now letter
rule_for (Counted name letter help) = counted_rule name.now letter

-- a command of the program
abbrev pub app_for : Subcommand → App
app_for s = with_rules (new_app s.name.now) (map rule_for s.arguments.now)
