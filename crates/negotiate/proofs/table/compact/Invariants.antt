use Rattle.std.proofs.Common.{◌≡◌, ◌+◌, ◌≤◌, ◌++◌, length, map}
use Rattle.std.specs.List.{filter_map}
use Rattle.pdu.specs.Remaining.{proposals_remaining}
use Rattle.negotiate.specs.ContextRows.{context_rows, row_of}
use Rattle.negotiate.specs.Contexts.{seen, offered}
use Rattle.negotiate.specs.Settings.{settings_of}
use Rattle.negotiate.proofs.table.compact.Given as goal

abbrev pub invariant-loop-proposal : goal.invariant-loop-proposal
invariant-loop-proposal l = record {
  can_next : (goal.iterator-loop-proposal).can_next l.proposal-iterator;
  is_finite : (goal.iterator-loop-proposal).is_finite l.proposal-iterator;
  rows : l.table.items ++ filter_map (row_of (settings_of l.config).additional) (map (seen (settings_of l.config).additional) (proposals_remaining l.proposal-iterator)) ≡ context_rows (settings_of l.config).additional (offered (settings_of l.config).additional l.request);
  few : length l.table.items + length (proposals_remaining l.proposal-iterator) ≤ 128;
}
