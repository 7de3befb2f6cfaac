use Rattle.std.proofs.Common.{◌≡◌, ◌+◌, ◌*◌, ◌≤◌, length, map}
use Rattle.std.specs.List.{flat_map}
use Rattle.pdu.specs.Remaining.{proposals_remaining}
use Rattle.negotiate.specs.Accept.{context_text, longest_accept}
use Rattle.negotiate.specs.Contexts.{seen}
use Rattle.negotiate.specs.Settings.{settings_of}
use Rattle.negotiate.proofs.accept.accept_size.Given as goal

abbrev pub invariant-loop-proposal : goal.invariant-loop-proposal
invariant-loop-proposal l = record {
  can_next : (goal.iterator-loop-proposal).can_next l.proposal-iterator;
  is_finite : (goal.iterator-loop-proposal).is_finite l.proposal-iterator;
  size : l.size + length (flat_map context_text (map (seen (settings_of l.config).additional) (proposals_remaining l.proposal-iterator))) ≡ 76 + (16 + 16 + 32) + length (flat_map context_text (map (seen (settings_of l.config).additional) l.request.contexts));
  least : 76 ≤ l.size;
  most : l.size + 35 * length (proposals_remaining l.proposal-iterator) ≤ longest_accept;
}
