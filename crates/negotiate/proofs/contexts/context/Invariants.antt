use Rattle.std.proofs.Common.{◌≡◌, nat_eq, map}
use Rattle.std.specs.List.{find}
use Rattle.pdu.specs.Remaining.{proposals_remaining}
use Rattle.negotiate.specs.Contexts.{seen}
use Rattle.negotiate.specs.Settings.{settings_of}
use Rattle.negotiate.proofs.contexts.context.Given as goal

abbrev pub invariant-loop-proposal : goal.invariant-loop-proposal
invariant-loop-proposal l =
    (goal.iterator-loop-proposal).can_next l.proposal-iterator ×
    (goal.iterator-loop-proposal).is_finite l.proposal-iterator ×
    (find (λ p. nat_eq p.id l.id) (map (seen (settings_of l.config).additional) l.request.contexts) ≡ find (λ p. nat_eq p.id l.id) (map (seen (settings_of l.config).additional) (proposals_remaining l.proposal-iterator)))
