use Rattle.std.proofs.Common.{Some, ap, sym, ◌∙◌}
use Rattle.negotiate.specs.Settings.{settings_of}
use Rattle.negotiate.proofs.NativeSyntaxesArePreferred.{agreed_additional, agreed_native}
use Rattle.negotiate.proofs.proposals.agreed_transfer.Goals as goal

pub returns-in-Some : goal.returns-in-Some
returns-in-Some c =
    ap (λ t. Some t) c.native.ensures
    ∙ sym (agreed_native (settings_of c.args.config.now).additional.transfers c.args.proposal.now.transfer_syntaxes c.in-Some.syntax (sym c.chosen_syntax.ensures ∙ c.in-Some.is))

pub returns-in-None : goal.returns-in-None
returns-in-None c =
    c.first_allowed.ensures
    ∙ sym (agreed_additional (settings_of c.args.config.now).additional.transfers c.args.proposal.now.transfer_syntaxes (sym c.chosen_syntax.ensures ∙ c.in-None.is))
