use Rattle.std.proofs.Common.{◌∙◌, ap, sym}
use Rattle.negotiate.specs.Settings.{Settings}
use Rattle.arguments.proofs.TransfersAreAsAsked.{asks_all, asks_named}
use Rattle.arguments.proofs.transfers.accepting_transfers.Goals as goal

pub returns-then-flag-clause-transfers : goal.returns-then-flag-clause-transfers
returns-then-flag-clause-transfers c =
    asks_all _ _ c.in_ok-syntaxes.syntaxes.now c.in_ok-named.named.items _ c.in_ok-syntaxes.ensures.values (sym c.flag.ensures ∙ c.if-flag.true) c.in_ok-named.ensures.read
    (ap (λ (s : Settings). s.additional.transfers) c.with_transfers.ensures ∙ c.encapsulated.ensures)

pub returns-clause-transfers : goal.returns-clause-transfers
returns-clause-transfers c =
    asks_named _ _ c.in_ok-syntaxes.syntaxes.now c.in_ok-named.named.items _ c.in_ok-syntaxes.ensures.values (sym c.flag.ensures ∙ c.if-flag.false) c.in_ok-named.ensures.read
    (ap (λ (s : Settings). s.additional.transfers) c.with_transfers-2.ensures ∙ c.as_slice.ensures.value)
