use Rattle.std.proofs.Common.{◌≡◌}
use Rattle.pdu.specs.Remaining.{syntaxes_remaining}
use Rattle.negotiate.specs.Contexts.{first_known, allowed_transfers}
use Rattle.negotiate.specs.Settings.{settings_of}
use Rattle.negotiate.proofs.proposals.first_allowed.Given as goal

abbrev pub invariant-loop-uid : goal.invariant-loop-uid
invariant-loop-uid l =
    (goal.iterator-loop-uid).can_next l.uid-iterator ×
    (goal.iterator-loop-uid).is_finite l.uid-iterator ×
    (first_known (allowed_transfers (settings_of l.config).additional.transfers l.proposal.transfer_syntaxes) ≡ first_known (allowed_transfers (settings_of l.config).additional.transfers (syntaxes_remaining l.uid-iterator)))
