use Rattle.std.proofs.Common.{◌≡◌, ◌+◌, ◌*◌, ◌≤◌, ◌++◌, length, map}
use Rattle.std.specs.List.{flat_map}
use Rattle.pdu.specs.Remaining.{proposals_remaining}
use Rattle.negotiate.specs.Accept.{context_text}
use Rattle.negotiate.specs.Contexts.{seen}
use Rattle.negotiate.specs.Settings.{settings_of}
use Rattle.negotiate.proofs.accept.with_contexts.Given as goal

abbrev pub invariant-loop-proposal : goal.invariant-loop-proposal
invariant-loop-proposal l = record {
  can_next : (goal.iterator-loop-proposal).can_next l.proposal-iterator;
  is_finite : (goal.iterator-loop-proposal).is_finite l.proposal-iterator;
  items : l.pdu.items ++ flat_map context_text (map (seen (settings_of l.config).additional) (proposals_remaining l.proposal-iterator)) ≡ l.fn.pdu.items ++ flat_map context_text (map (seen (settings_of l.config).additional) l.request.contexts);
  room : length l.pdu.items + 35 * length (proposals_remaining l.proposal-iterator) ≤ 4579;
}
