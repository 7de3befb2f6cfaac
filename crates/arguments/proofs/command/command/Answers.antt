use Rattle.std.proofs.Common.{ap, ◌∙◌, true}
use Rattle.std.proofs.lemmas.Result.{IfOk-weaker}
use Rattle.clap.specs.Simple.{App, app_of_fields, on_top}
use Rattle.arguments.specs.CommandLine.{with_subcommands, receiving_apps, reading_apps}
use Rattle.arguments.proofs.command.command.Goals as goal

pub returns : goal.returns
returns c =
    let version = ap app_of_fields c.version.ensures ∙ ap (on_top (λ s. record s { has_version = true })) c.new.ensures.app in
    let helped = ap app_of_fields c.after_help.ensures ∙ ap app_of_fields c.about.ensures ∙ version in
    let required = ap app_of_fields c.subcommand_required-command.ensures ∙ ap (on_top (λ s. record s { subcommand_required = true })) helped in
    IfOk-weaker c.add_reading.result _ _
    (λ s h. h ∙ ap (λ (a : App). with_subcommands a reading_apps) (c.in_ok-add_receiving.ensures ∙ ap (λ (a : App). with_subcommands a receiving_apps) required))
    c.add_reading.ensures
