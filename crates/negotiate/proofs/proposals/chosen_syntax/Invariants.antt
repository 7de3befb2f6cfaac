use Rattle.std.proofs.Common.{◌≡◌, ◌||◌}
use Rattle.pdu.specs.Remaining.{syntaxes_remaining}
use Rattle.negotiate.specs.Contexts.{proposes_explicit, proposes_implicit}
use Rattle.negotiate.proofs.proposals.chosen_syntax.Given as goal

abbrev pub invariant-loop-uid : goal.invariant-loop-uid
invariant-loop-uid l =
    (goal.iterator-loop-uid).can_next l.uid-iterator ×
    (goal.iterator-loop-uid).is_finite l.uid-iterator ×
    (proposes_explicit l.proposal.transfer_syntaxes ≡ proposes_explicit (syntaxes_remaining l.uid-iterator)) ×
    (proposes_implicit l.proposal.transfer_syntaxes ≡ (l.has_implicit || proposes_implicit (syntaxes_remaining l.uid-iterator)))
