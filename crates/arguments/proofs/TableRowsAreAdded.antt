-- The rows of a table, added to a command one after the other, make it the command that the table defines: its
-- arguments (`rules_more`, `rules_all`) and its subcommands (`commands_more`, `commands_all`). Stands on the
-- definitions alone.
use Rattle.std.proofs.Common.{◌≡◌, ◌<◌, ◌≤◌, ◌+◌, ◌∙◌, ◌&&◌, ℕ, Bool, true, false, not, List, [], ◌∷◌, is_some, length, get_or, drop, map, refl, ap, sym}
use Rattle.std.proofs.lemmas.List.{at_drop_more, at_drop_all}
use Rattle.clap.specs.Walk.{Rule, rule_of, is_empty}
use Rattle.clap.specs.Simple.{App, Shape, app_of, new_app, with_rule, with_subcommand, shape_of_fields}
use Rattle.clap.specs.Built.{AddsArg, AddsSubcommand}
use Rattle.clap.specs.declared.builder.arg.Arg.{Arg}
use Rattle.clap.specs.declared.builder.command.Command.{Command}
use Rattle.clap.specs.declared.builder.command.Command.TheViews.{out-Command}
use Rattle.clap.specs.declared.builder.command.Command.TheOpen.{Command-F}
use Rattle.arguments.specs.CommandLine.{with_rules, with_subcommands}
use Rattle.arguments.specs.machine.Tables.{rule_for, app_for}
use Rattle.arguments.specs.declared.argument.Argument.{Argument}
use Rattle.arguments.specs.declared.argument.Argument.TheVariants.{Positional, Several, Needed, Default, Defaults, Free, Repeated, Flag, Letter, Counted}
use Rattle.arguments.specs.declared.command.Subcommand.{Subcommand}

-- a simple argument is not global, nor is a plain command
abbrev all_and : List Bool → Bool → Bool
all_and [] b = b
all_and (a ∷ bs) b = a && all_and bs b

last_not : (bs : List Bool) (b : Bool) → all_and bs (not b) ≡ true → b ≡ false
last_not [] false e = refl
last_not [] true e = absurd cc
last_not (true ∷ bs) b e = last_not bs b e
last_not (false ∷ bs) b e = absurd cc

rule_local : (a : Arg) → (rule_of a).is_simple ≡ true → a.global ≡ false
rule_local a e = last_not (is_empty a.overrides.items ∷ is_empty a.default_vals_ifs.items ∷ is_empty a.groups.items ∷ not (is_some a.val_delim)
    ∷ not (is_some a.terminator) ∷ not a.allow_hyphen_values ∷ not a.allow_negative_numbers ∷ not a.require_equals ∷ not a.last ∷ []) a.global e

rule_simple : (a : Argument) → (rule_for a).is_simple ≡ true
rule_simple (Positional name help) = refl
rule_simple (Several name help) = refl
rule_simple (Needed name value help) = refl
rule_simple (Default name value default help) = refl
rule_simple (Defaults name value default help) = refl
rule_simple (Free name value help) = refl
rule_simple (Repeated name value help) = refl
rule_simple (Flag name help) = refl
rule_simple (Letter name letter help) = refl
rule_simple (Counted name letter help) = refl

argument_local : (a : Arg) (x : Argument) → rule_of a ≡ rule_for x → a.global ≡ false
argument_local a x e = rule_local a (ap (λ (r : Rule). r.is_simple) e ∙ rule_simple x)

third_not : (a b c d : Bool) → (a && (b && (not c && d))) ≡ true → c ≡ false
third_not true true false d e = refl
third_not true true true d e = absurd cc
third_not true false c d e = absurd cc
third_not false b c d e = absurd cc

shape_local : (c : Command-F Command) → (shape_of_fields c).is_plain ≡ true → c.has_globals ≡ false
shape_local c e = third_not (is_empty c.groups.items) (not c.allow_external_subcommands) c.has_globals _ e

rules_plain : (app : App) (rules : List Rule) → (with_rules app rules).top.is_plain ≡ app.top.is_plain
rules_plain app [] = refl
rules_plain app (rule ∷ rules) = rules_plain (with_rule app rule) rules

command_local : (c : Command-F Command) (s : Subcommand) → shape_of_fields c ≡ (app_for s).top → c.has_globals ≡ false
command_local c s e = shape_local c (ap (λ (t : Shape). t.is_plain) e ∙ rules_plain (new_app s.name.now) (map rule_for s.arguments.now))

pub rules_more : (old new : Command) (arg : Arg) (whole : App) (xs : List Argument) (i : ℕ) (d : Argument) → i < length xs
    → AddsArg old arg new → rule_of arg ≡ rule_for (get_or xs i d)
    → with_rules (app_of old) (map rule_for (drop i xs)) ≡ whole → with_rules (app_of new) (map rule_for (drop (i + 1) xs)) ≡ whole
rules_more old new arg whole xs i d lt adds e h =
    ap (λ (a : App). with_rules a (map rule_for (drop (i + 1) xs))) (adds.shape (argument_local arg (get_or xs i d) e) ∙ ap (with_rule (app_of old)) e)
    ∙ sym (at_drop_more (λ r. with_rules (app_of old) (map rule_for r)) xs i d lt) ∙ h

pub rules_all : (last whole : App) (xs : List Argument) (i : ℕ) → length xs ≤ i → with_rules last (map rule_for (drop i xs)) ≡ whole → last ≡ whole
rules_all last whole xs i past h = sym (at_drop_all (λ r. with_rules last (map rule_for r)) xs i past) ∙ h

pub commands_more : (old new sub : Command) (whole : App) (ss : List Subcommand) (i : ℕ) (d : Subcommand) → i < length ss
    → AddsSubcommand old sub new → app_of sub ≡ app_for (get_or ss i d)
    → with_subcommands (app_of old) (map app_for (drop i ss)) ≡ whole → with_subcommands (app_of new) (map app_for (drop (i + 1) ss)) ≡ whole
commands_more old new sub whole ss i d lt adds e h =
    ap (λ (a : App). with_subcommands a (map app_for (drop (i + 1) ss)))
    (adds.shape (command_local (out-Command sub) (get_or ss i d) (ap (λ (a : App). a.top) e)) ∙ ap (λ (a : App). with_subcommand (app_of old) a.top) e)
    ∙ sym (at_drop_more (λ r. with_subcommands (app_of old) (map app_for r)) ss i d lt) ∙ h

pub commands_all : (last whole : App) (ss : List Subcommand) (i : ℕ) → length ss ≤ i → with_subcommands last (map app_for (drop i ss)) ≡ whole → last ≡ whole
commands_all last whole ss i past h = sym (at_drop_all (λ r. with_subcommands last (map app_for r)) ss i past) ∙ h
